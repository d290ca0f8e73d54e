-- The views of a gazetteer through its volumes.
use Rattle.std.proofs.Common.{◌≡◌, ◌≤◌, ◌<◌, ◌||◌, ℕ, Bool, true, false, cond, T, List, [], ◌∷◌, map, refl, sym, ap, subst, ◌∙◌, unwrap_or}
use Rattle.std.specs.Prelude.{Some, None, filter}
use Rattle.std.specs.Cmp.{eq_by_cmp_equiv}
use Rattle.std.specs.FinMap as finite
use Rattle.std.specs.FinMap.{find, get-entries, entries_sorted, is_sorted}
use Rattle.std.specs.FinMap.Entries.{below_all}
use Rattle.std.specs.FinSet as set
use Rattle.std.specs.List.{All, AllByRecursion, list_any}
use Rattle.std.specs.List.Sorted.{IsStrictlySortedBy}
use Rattle.std.specs.Map.{keys_of}
use Rattle.std.specs.Ordering.{eq_by_cmp, is_lt}
use Rattle.std.specs.declared.cmp.Ordering.TheVariants.{Less}
use Rattle.gaz_histories.specs.Histories.{Version, standing_at, until, was_used_at}
use Rattle.gaz_records.proofs.KeyOrder.{keys_exact, keys_total}
use Rattle.gaz_records.specs.Keys.{key_cmp, key_of}
use Rattle.gaz_records.specs.declared.item.Item.{Item}
use Rattle.gaz_records.specs.declared.key.Key.{Key}
use Rattle.gaz_views.proofs.SameKeys.{same_key}
use Rattle.gaz_views.specs.View.{View, empty_view, with_item, without_key}
use Rattle.gaz_views.specs.Words.{entries}
use Rattle.gaz_standing.proofs.RowsAt.{below_none, both_hold, is_less, same_rows}
use Rattle.gaz_standing.proofs.Versions.{last, none_at_first, no_version, settled, some_version, used_by, used_where_item}
use Rattle.gaz_standing.specs.KeyHistories.{ChangesAt, ItemVersions, KeyHistories, rows_at, used_at, versions_at, view_at}

abbrev Rows : Type 0
Rows = List (Key × ItemVersions)

-- the versions that entries have at a key
abbrev versions_in : Rows → Key → ItemVersions
versions_in es q = unwrap_or (find key_cmp q es) []

abbrev same : Key → Key → Bool
same = eq_by_cmp key_cmp

-- ---- entries in the order of keys

same_used : (es : Rows) → T (is_sorted key_cmp es) → (v : ℕ) (q : Key) → list_any (same q) (used_at es v) ≡ was_used_at (versions_in es q) v
same_used [] h v q = refl
same_used (e ∷ es) h v q = by_test (same_used es (both_hold (below_all key_cmp e.0 es) (is_sorted key_cmp es) h).1 v q) (was_used_at e.1 v) refl (same q e.0) refl
  where
    two : T (below_all key_cmp e.0 es) × T (is_sorted key_cmp es)
    two = both_hold _ _ h

    kept : Rows
    kept = filter (λ e. was_used_at e.1 v) es

    by_test : list_any (same q) (used_at es v) ≡ was_used_at (versions_in es q) v → (u : Bool) → was_used_at e.1 v ≡ u → (b : Bool) → same q e.0 ≡ b → list_any (same q) (map (λ e. e.0) (cond u (e ∷ kept) kept)) ≡ was_used_at (unwrap_or (cond b (Some e.1) (find key_cmp q es)) []) v
    by_test behind true is true at = ap (λ b. b || list_any (same q) (used_at es v)) at ∙ sym is
    by_test behind true is false at = ap (λ b. b || list_any (same q) (used_at es v)) at ∙ behind
    by_test behind false is true at = behind ∙ ap (λ k. was_used_at (versions_in es k) v) (same_key q e.0 at) ∙ ap (λ o. was_used_at (unwrap_or o []) v) (below_none key_cmp same_key e.0 es two.0) ∙ sym is
    by_test behind false is false at = behind

-- the keys of a map ascend
pub keys_ascend : {X : Type 0} (m : finite.FinMap key_cmp X) → IsStrictlySortedBy key_cmp (finite.keys m)
unfolding IsStrictlySortedBy
keys_ascend {X} m = ascends (finite.entries m) (entries_sorted m)
  where
    above : (k : Key) (es : List (Key × X)) → T (below_all key_cmp k es) → AllByRecursion (λ y. key_cmp k y ≡ Less) (keys_of es)
    above k [] h = tt
    above k (e ∷ es) h = let two = both_hold (is_lt (key_cmp k e.0)) (below_all key_cmp k es) h in (is_less _ two.0, above k es two.1)

    ascends : (es : List (Key × X)) → T (is_sorted key_cmp es) → IsStrictlySortedBy key_cmp (keys_of es)
    ascends [] h = tt
    ascends (e ∷ es) h = let two = both_hold (below_all key_cmp e.0 es) (is_sorted key_cmp es) h in (above e.0 es two.0, ascends es two.1)

-- the keys of a view's rows do
pub view_ascends : (v : View) → IsStrictlySortedBy key_cmp (keys_of (entries v))
view_ascends v = keys_ascend v.items

-- ---- what a view has at a key

pub get_at : (g : KeyHistories) (v : ℕ) (k : Key) → finite.get (view_at g v).items k ≡ standing_at (versions_at g k) v
unfolding view_at
get_at g v k =
    finite.get-from_entries keys_total (rows_at (finite.entries g) v) k ∙ same_rows key_cmp same_key (finite.entries g) (entries_sorted g) v k ∙ ap (λ o. standing_at (unwrap_or o []) v) (sym (get-entries g k))

pub contains_at : (g : KeyHistories) (v : ℕ) (k : Key) → set.contains (view_at g v).used k ≡ was_used_at (versions_at g k) v
unfolding view_at
contains_at g v k =
    set.contains-from_list keys_total (used_at (finite.entries g) v) k ∙ same_used (finite.entries g) (entries_sorted g) v k ∙ ap (λ o. was_used_at (unwrap_or o []) v) (sym (get-entries g k))

-- the row of a key in a view
pub row_at : (g : KeyHistories) (v : ℕ) (k : Key) → standing_at (versions_at g k) v ≡ find key_cmp k (entries (view_at g v))
row_at g v k = sym (get_at g v k) ∙ get-entries (view_at g v).items k

-- ---- views that are one

pub same_views : (v w : View) → v.custody ≡ w.custody → ((k : Key) → finite.get v.items k ≡ finite.get w.items k) → ((k : Key) → set.contains v.used k ≡ set.contains w.used k) → v ≡ w
same_views v w custody items used =
    let there = finite.same_map keys_total keys_exact v.items w.items items in
    let marked = set.same_set keys_total keys_exact v.used w.used used in
    λ i. record { items = there i; used = marked i; custody = custody i }

-- nothing is passed on
pub none_passed : (g : KeyHistories) (v : ℕ) → (view_at g v).custody ≡ finite.empty
unfolding view_at
none_passed g v = refl

-- where the same versions have begun
pub same_view : (g h : KeyHistories) (v w : ℕ) → ((k : Key) → until (versions_at g k) v ≡ until (versions_at h k) w) → view_at g v ≡ view_at h w
same_view g h v w alike = same_views (view_at g v) (view_at h w) (none_passed g v ∙ sym (none_passed h w))
    (λ k. get_at g v k ∙ ap last (alike k) ∙ sym (get_at h w k))
    (λ k. contains_at g v k ∙ used_by (versions_at g k) v ∙ ap some_version (alike k) ∙ sym (used_by (versions_at h k) w) ∙ sym (contains_at h w k))

-- where no more versions begin
pub settled_view : (g : KeyHistories) (n v w : ℕ) → n ≤ v → n ≤ w → ((k : Key) → All (λ (e : Version Item). e.0 ≤ n) (versions_at g k)) → view_at g v ≡ view_at g w
settled_view g n v w le lf all = same_view g g v w (λ k. settled (versions_at g k) n v le (all k) ∙ sym (settled (versions_at g k) n w lf (all k)))

-- before the first volume
pub first_view : (g : KeyHistories) (n : ℕ) → ((k : Key) → All (λ (e : Version Item). (0 < e.0) × (e.0 ≤ n)) (versions_at g k)) → view_at g 0 ≡ empty_view
unfolding empty_view
first_view g n all = same_views (view_at g 0) empty_view (none_passed g 0)
    (λ k. get_at g 0 k ∙ ap last (none_at_first (versions_at g k) n (all k)) ∙ sym (finite.get-empty key_cmp k))
    (λ k. contains_at g 0 k ∙ used_by (versions_at g k) 0 ∙ nothing_used (ap some_version (none_at_first (versions_at g k) n (all k))) ∙ sym (set.contains-empty key_cmp k))
  where
    nothing_used : {b : Bool} → b ≡ some_version {T = Item} [] → b ≡ false
    nothing_used e = e ∙ no_version Item

-- ---- where the versions of one key change

module _ (g h : KeyHistories) (key : Key) (vs : ItemVersions) (change : ChangesAt g h key vs) where
  -- what is asked of versions is the same at all keys where it is at this one
  pub alike_at : {X : Type 0} (f : ItemVersions → X) → f vs ≡ f (versions_at g key) → (k : Key) → f (versions_at h k) ≡ f (versions_at g k)
  alike_at f same_here k = ap f (change k) ∙ by_same (eq_by_cmp key_cmp key k) refl
    where
      by_same : (b : Bool) → eq_by_cmp key_cmp key k ≡ b → f (cond b vs (versions_at g k)) ≡ f (versions_at g k)
      by_same true at = same_here ∙ ap (λ q. f (versions_at g q)) (same_key key k at)
      by_same false at = refl

  -- what holds of the versions of all keys
  pub holds_at : (P : ItemVersions → Type 0) → P vs → ((k : Key) → P (versions_at g k)) → (k : Key) → P (versions_at h k)
  holds_at P here all k = subst P (sym (change k)) (by_same (eq_by_cmp key_cmp key k))
    where
      by_same : (b : Bool) → P (cond b vs (versions_at g k))
      by_same true = here
      by_same false = all k

  pub past_view : (v : ℕ) → until vs v ≡ until (versions_at g key) v → view_at h v ≡ view_at g v
  past_view v same_here = same_view h g v v (alike_at (λ ws. until ws v) same_here)

  pub item_now : (v : ℕ) (k : Key) → standing_at (versions_at h k) v ≡ cond (eq_by_cmp key_cmp k key) (standing_at vs v) (standing_at (versions_at g k) v)
  item_now v k = ap (λ ws. standing_at ws v) (change k) ∙ of_cond (eq_by_cmp key_cmp key k) ∙ ap (λ b. cond b (standing_at vs v) (standing_at (versions_at g k) v)) ((eq_by_cmp_equiv keys_total).symm key k)
    where
      of_cond : (b : Bool) → standing_at (cond b vs (versions_at g k)) v ≡ cond b (standing_at vs v) (standing_at (versions_at g k) v)
      of_cond true = refl
      of_cond false = refl

  -- what the view has at a key
  pub get_now : (v : ℕ) (k : Key) → finite.get (view_at h v).items k ≡ cond (eq_by_cmp key_cmp k key) (standing_at vs v) (finite.get (view_at g v).items k)
  get_now v k = get_at h v k ∙ item_now v k ∙ ap (cond (eq_by_cmp key_cmp k key) (standing_at vs v)) (sym (get_at g v k))

  pub put_view : (n : ℕ) (i : Item) → key ≡ key_of i → standing_at vs n ≡ Some i → was_used_at vs n ≡ true → view_at h n ≡ with_item (view_at g n) i
  put_view n i is there used = same_views (view_at h n) (with_item (view_at g n) i) (none_passed h n ∙ sym (none_passed g n))
      (λ k. get_now n k ∙ ap (λ o. cond (eq_by_cmp key_cmp k key) o (finite.get (view_at g n).items k)) there ∙ ap (λ q. cond (eq_by_cmp key_cmp k q) (Some i) (finite.get (view_at g n).items k)) is ∙ sym (finite.get-insert keys_total (view_at g n).items (key_of i) i k))
      (λ k. contains_at h n k ∙ ap (λ ws. was_used_at ws n) (change k) ∙ of_cond k (eq_by_cmp key_cmp key k) refl ∙ ap (λ b. b || set.contains (view_at g n).used k) ((eq_by_cmp_equiv keys_total).symm key k)
      ∙ ap (λ q. eq_by_cmp key_cmp k q || set.contains (view_at g n).used k) is ∙ sym (set.contains-insert keys_total (view_at g n).used (key_of i) k))
    where
      of_cond : (k : Key) (b : Bool) → eq_by_cmp key_cmp key k ≡ b → was_used_at (cond b vs (versions_at g k)) n ≡ (b || set.contains (view_at g n).used k)
      of_cond k true at = used
      of_cond k false at = sym (contains_at g n k)

  pub taken_view : (n : ℕ) (i : Item) → standing_at vs n ≡ None → was_used_at vs n ≡ true → standing_at (versions_at g key) n ≡ Some i → view_at h n ≡ without_key (view_at g n) key
  taken_view n i gone used there = same_views (view_at h n) (without_key (view_at g n) key) (none_passed h n ∙ sym (none_passed g n))
      (λ k. get_now n k ∙ ap (λ o. cond (eq_by_cmp key_cmp k key) o (finite.get (view_at g n).items k)) gone ∙ sym (finite.get-remove keys_total (view_at g n).items key k))
      (λ k. contains_at h n k ∙ alike_at (λ ws. was_used_at ws n) (used ∙ sym (used_where_item (versions_at g key) n i there)) k ∙ sym (contains_at g n k))

-- where nothing stands, there is nothing to take
pub none_taken : (g : KeyHistories) (n : ℕ) (key : Key) → standing_at (versions_at g key) n ≡ None → view_at g n ≡ without_key (view_at g n) key
none_taken g n key none = same_views (view_at g n) (without_key (view_at g n) key) refl (λ k. by_same k (eq_by_cmp key_cmp k key) refl ∙ sym (finite.get-remove keys_total (view_at g n).items key k)) (λ k. refl)
  where
    by_same : (k : Key) (b : Bool) → eq_by_cmp key_cmp k key ≡ b → finite.get (view_at g n).items k ≡ cond b None (finite.get (view_at g n).items k)
    by_same k true at = get_at g n k ∙ ap (λ q. standing_at (versions_at g q) n) (same_key k key at) ∙ none
    by_same k false at = refl
