-- KeyHistories as histories in any order, and keys beside them among which are all of theirs.
use Rattle.std.proofs.Common.{◌≡◌, ◌+◌, ◌&&◌, ◌||◌, ℕ, Bool, true, false, cond, List, [], ◌∷◌, map, take, arith, refl, sym, ap, subst, ◌∙◌, unwrap_or}
use Rattle.std.specs.Prelude.{Option, Some, None, length, filter, is_some, option_map}
use Rattle.std.proofs.lemmas.List.Kept.{IsStrictlySortedBy-filter}
use Rattle.std.proofs.lemmas.Map.{NonePasses, lookup-none}
use Rattle.std.proofs.lemmas.Map.Views.{any-filter_same}
use Rattle.std.specs.Bool.{OnTrue}
use Rattle.std.specs.Cmp.{eq_by_cmp_equiv}
use Rattle.std.specs.FinMap as finite
use Rattle.std.specs.List.{AllByRecursion, IsDistinct, cons_option, list_any}
use Rattle.std.specs.List.Sorted.{IsStrictlySortedBy}
use Rattle.std.specs.Map.{keys_of, lookup}
use Rattle.std.specs.Ordering.{eq_by_cmp}
use Rattle.std.specs.declared.cmp.Ordering.TheVariants.{Less}
use Rattle.gaz_histories.specs.Histories.{Versions, before, is_empty, standing_at}
use Rattle.gaz_records.proofs.KeyOrder.{keys_exact, keys_total}
use Rattle.gaz_records.specs.Keys.{key_cmp}
use Rattle.gaz_records.specs.declared.item.Item.{Item}
use Rattle.gaz_records.specs.declared.item.Kind.{Kind}
use Rattle.gaz_records.specs.declared.key.Key.{Key}
use Rattle.gaz_views.proofs.SameKeys.{same_key}
use Rattle.gaz_views.proofs.Trees.{entries_tree, get_tree}
use Rattle.gaz_views.specs.Words.{comes_after, entries, is_of, page}
use Rattle.gaz_standing.specs.Changing.{AddsKey}
use Rattle.gaz_standing.specs.KeyHistories.{ChangesAt, HasTheKeysOf, ItemVersions, KeyHistories, rows_at, versions_among, versions_at, view_at, with_versions}

abbrev Rows : Type 0
Rows = List (Key × ItemVersions)

abbrev pub stored : Rows → Key → Option ItemVersions
stored es k = lookup (eq_by_cmp key_cmp k) es

-- the versions at a key are those of its history
pub versions_stored : (g : KeyHistories) (es : Rows) (k : Key) → finite.from_entries es ≡ g → versions_at g k ≡ unwrap_or (stored es k) []
versions_stored g es k is = ap (λ (h : KeyHistories). versions_at h k) (sym is) ∙ ap (λ o. unwrap_or o []) (get_tree (λ a b. refl) keys_total es k)

abbrev has : List Key → Key → Bool
has ks k = list_any (eq_by_cmp key_cmp k) ks

abbrev Writes : Rows → Rows → Key → Option ItemVersions → Type 0
Writes es fs key o = (q : Key) → stored fs q ≡ cond (eq_by_cmp key_cmp key q) o (stored es q)

written : (es fs : Rows) (key : Key) (o : Option ItemVersions) → Writes es fs key o → (k : Key) → unwrap_or (stored fs k) [] ≡ cond (eq_by_cmp key_cmp key k) (unwrap_or o []) (unwrap_or (stored es k) [])
written es fs key o h k = ap (λ p. unwrap_or p []) (h k) ∙ of_cond (eq_by_cmp key_cmp key k)
  where
    of_cond : (b : Bool) → unwrap_or (cond b o (stored es k)) [] ≡ cond b (unwrap_or o []) (unwrap_or (stored es k) [])
    of_cond true = refl
    of_cond false = refl

-- another history at a key
pub stores : (g : KeyHistories) (es fs : Rows) (key : Key) (vs ws : ItemVersions) → finite.from_entries es ≡ g → Writes es fs key (Some vs) → vs ≡ ws → ChangesAt g (finite.from_entries fs) key ws
stores g es fs key vs ws is h same k =
    versions_stored (finite.from_entries fs) fs k refl ∙ written es fs key (Some vs) h k ∙ (λ i. cond (eq_by_cmp key_cmp key k) (same i) (sym (versions_stored g es k is) i))

-- no history at a key that had no versions
pub stores_none : (g : KeyHistories) (es fs : Rows) (key : Key) → finite.from_entries es ≡ g → Writes es fs key None → versions_at g key ≡ [] → (k : Key) → versions_at (finite.from_entries fs) k ≡ versions_at g k
stores_none g es fs key is h none k =
    versions_stored (finite.from_entries fs) fs k refl ∙ written es fs key None h k ∙ ap (cond (eq_by_cmp key_cmp key k) []) (sym (versions_stored g es k is)) ∙ by_same (eq_by_cmp key_cmp key k) refl
  where
    by_same : (b : Bool) → eq_by_cmp key_cmp key k ≡ b → cond b [] (versions_at g k) ≡ versions_at g k
    by_same true at = sym none ∙ ap (versions_at g) (same_key key k at)
    by_same false at = refl

-- where its versions are again those that the key had, the histories are as they were
stores_same : (g : KeyHistories) (es fs : Rows) (key : Key) (vs : ItemVersions) → finite.from_entries es ≡ g → Writes es fs key (Some vs) → Some vs ≡ stored es key → finite.from_entries fs ≡ g
stores_same g es fs key vs is h same =
    finite.same_map keys_total keys_exact (finite.from_entries {R = key_cmp} fs) (finite.from_entries {R = key_cmp} es) (λ q. get_tree (λ a b. refl) keys_total fs q ∙ h q ∙ by_same q (eq_by_cmp key_cmp key q) refl ∙ sym (get_tree (λ a b. refl) keys_total es q)) ∙ is
  where
    by_same : (q : Key) (b : Bool) → eq_by_cmp key_cmp key q ≡ b → cond b (Some vs) (stored es q) ≡ stored es q
    by_same q true at = same ∙ ap (stored es) (same_key key q at)
    by_same q false at = refl

module _ (g : KeyHistories) (es : Rows) (key : Key) (is : finite.from_entries es ≡ g) where
  -- the versions of a history that is there
  pub was_there : (vs : ItemVersions) → stored es key ≡ Some vs → vs ≡ versions_at g key
  was_there vs there = ap (λ o. unwrap_or o []) (sym there) ∙ sym (versions_stored g es key is)

  -- there are none where there is no history
  pub was_nowhere : stored es key ≡ None → [] ≡ versions_at g key
  was_nowhere none = ap (λ o. unwrap_or o []) (sym none) ∙ sym (versions_stored g es key is)

  pub stores_now : (fs hs : Rows) (vs ws : ItemVersions) → fs ≡ hs → Writes es hs key (Some vs) → vs ≡ ws → ChangesAt g (finite.from_entries fs) key ws
  stores_now fs hs vs ws new h same k = ap (λ (l : Rows). versions_at (finite.from_entries l) k) new ∙ stores g es hs key vs ws is h same k

  -- where the versions that stand there are those that the key had, the histories are as they were
  pub stores_again : (fs hs : Rows) (vs ws : ItemVersions) → fs ≡ hs → Writes es hs key (Some vs) → vs ≡ ws → stored es key ≡ Some ws → finite.from_entries fs ≡ g
  stores_again fs hs vs ws new h same there = ap (λ (l : Rows). finite.from_entries l) new ∙ stores_same g es hs key vs is h (ap Some same ∙ sym there)

pub nothing_in : {T : Type 0} (vs : Versions T) → true ≡ is_empty vs → vs ≡ []
nothing_in [] e = refl
nothing_in (v ∷ vs) e = cc

-- whether a change leaves no versions
pub emptied : (g h : KeyHistories) (key : Key) (vs ws : ItemVersions) (b : Bool) → ChangesAt g h key vs → ws ≡ vs → b ≡ is_empty ws → OnTrue b (versions_at h key ≡ [])
emptied g h key vs ws true change same none = change key ∙ ap (λ b. cond b vs (versions_at g key)) ((eq_by_cmp_equiv keys_total).refl key) ∙ sym same ∙ nothing_in ws none
emptied g h key vs ws false change same none = tt

-- nothing is cut where there are no versions
pub cut_none : (g : KeyHistories) (key : Key) (v : ℕ) → versions_at g key ≡ [] → ChangesAt g g key (before (versions_at g key) v)
cut_none g key v none k = by_same (eq_by_cmp key_cmp key k) refl
  where
    by_same : (b : Bool) → eq_by_cmp key_cmp key k ≡ b → versions_at g k ≡ cond b (before (versions_at g key) v) (versions_at g k)
    by_same true at = ap (versions_at g) (sym (same_key key k at)) ∙ none ∙ ap (λ (vs : ItemVersions). before vs v) (sym none)
    by_same false at = refl

-- ---- the keys among which are those of all entries

-- another history at a key that has one
pub keys_stay : (ks : List Key) (es fs hs : Rows) (key : Key) (vs ws : ItemVersions) → HasTheKeysOf ks es → stored es key ≡ Some ws → fs ≡ hs → Writes es hs key (Some vs) → HasTheKeysOf ks fs
keys_stay ks es fs hs key vs ws all there new h k is = all k (by_same (eq_by_cmp key_cmp key k) refl ∙ ap is_some (sym (h k)) ∙ ap (λ (l : Rows). is_some (stored l k)) (sym new) ∙ is)
  where
    by_same : (b : Bool) → eq_by_cmp key_cmp key k ≡ b → is_some (stored es k) ≡ is_some (cond b (Some vs) (stored es k))
    by_same true at = ap (λ (q : Key). is_some (stored es q)) (sym (same_key key k at)) ∙ ap is_some there
    by_same false at = refl

-- a history at a key that is noted
pub keys_put : (ks ls : List Key) (es fs hs : Rows) (key : Key) (vs : ItemVersions) → HasTheKeysOf ks es → AddsKey ks ls key → fs ≡ hs → Writes es hs key (Some vs) → HasTheKeysOf ls fs
keys_put ks ls es fs hs key vs all put new h k is = put k ∙ by_same (eq_by_cmp key_cmp key k) (ap is_some (sym (h k)) ∙ ap (λ (l : Rows). is_some (stored l k)) (sym new) ∙ is)
  where
    by_same : (b : Bool) → is_some (cond b (Some vs) (stored es k)) ≡ true → (b || has ks k) ≡ true
    by_same true e = refl
    by_same false e = all k e

-- a key that is noted, with or without a history
pub keys_noted : (ks ls : List Key) (es fs : Rows) (key : Key) → HasTheKeysOf ks es → AddsKey ks ls key → fs ≡ es → HasTheKeysOf ls fs
keys_noted ks ls es fs key all put same k is = put k ∙ either (eq_by_cmp key_cmp key k) (has ks k) (all k (ap (λ (l : Rows). is_some (stored l k)) (sym same) ∙ is))
  where
    either : (a b : Bool) → b ≡ true → (a || b) ≡ true
    either true b e = refl
    either false b e = e

-- the same keys in another order
pub keys_arranged : (ks ls : List Key) (es : Rows) → HasTheKeysOf ks es → ((k : Key) → has ls k ≡ has ks k) → HasTheKeysOf ls es
keys_arranged ks ls es all same k is = same k ∙ all k is

-- ---- pages

-- the rows of keys that ascend ascend
rows_ascend : (v : ℕ) (es : Rows) → IsStrictlySortedBy key_cmp (keys_of es) → IsStrictlySortedBy key_cmp (keys_of (rows_at es v))
unfolding IsStrictlySortedBy
rows_ascend v [] h = tt
rows_ascend v (e ∷ es) h = by_item (standing_at e.1 v) (rows_ascend v es h.1) (above es h.0)
  where
    above : (es : Rows) → AllByRecursion (λ y. key_cmp e.0 y ≡ Less) (keys_of es) → AllByRecursion (λ y. key_cmp e.0 y ≡ Less) (keys_of (rows_at es v))
    above [] h = tt
    above (f ∷ es) h = either (standing_at f.1 v) h.0 (above es h.1)
      where
        either : (o : Option Item) → key_cmp e.0 f.0 ≡ Less → AllByRecursion (λ y. key_cmp e.0 y ≡ Less) (keys_of (rows_at es v)) → AllByRecursion (λ y. key_cmp e.0 y ≡ Less) (keys_of (cons_option (option_map (λ i. (f.0, i)) o) (rows_at es v)))
        either None here rest = rest
        either (Some i) here rest = (here, rest)

    by_item : (o : Option Item) → IsStrictlySortedBy key_cmp (keys_of (rows_at es v)) → AllByRecursion (λ y. key_cmp e.0 y ≡ Less) (keys_of (rows_at es v)) → IsStrictlySortedBy key_cmp (keys_of (cons_option (option_map (λ i. (e.0, i)) o) (rows_at es v)))
    by_item None rest first = rest
    by_item (Some i) rest first = (first, rest)

-- a view's rows are those of entries in order
rows_stored : (g : KeyHistories) (es : Rows) (v : ℕ) → finite.from_entries es ≡ g → IsStrictlySortedBy key_cmp (keys_of es) → rows_at es v ≡ entries (view_at g v)
unfolding view_at
rows_stored g es v is h =
    sym (entries_tree (λ a b. refl) keys_total (rows_at es v) (rows_ascend v es h))
    ∙ ap (λ (l : Rows). finite.entries (finite.from_entries {R = key_cmp} (rows_at l v))) (sym (entries_tree (λ a b. refl) keys_total es h))
    ∙ ap (λ (h : KeyHistories). finite.entries (finite.from_entries {R = key_cmp} (rows_at (finite.entries h) v))) is

-- the keys are those that are given versions
keys_with : (ks : List Key) (es : Rows) → keys_of (with_versions ks es) ≡ ks
keys_with [] es = refl
keys_with (k ∷ ks) es = ap (λ l. k ∷ l) (keys_with ks es)

found_with : (ks : List Key) (es : Rows) (q : Key) → stored (with_versions ks es) q ≡ cond (has ks q) (Some (versions_among es q)) None
found_with [] es q = refl
found_with (k ∷ ks) es q = by_same (found_with ks es q) (eq_by_cmp key_cmp q k) refl
  where
    by_same : stored (with_versions ks es) q ≡ cond (has ks q) (Some (versions_among es q)) None → (b : Bool) → eq_by_cmp key_cmp q k ≡ b → cond b (Some (versions_among es k)) (stored (with_versions ks es) q) ≡ cond (b || has ks q) (Some (versions_among es q)) None
    by_same rest true at = ap (λ (x : Key). Some (versions_among es x)) (sym (same_key q k at))
    by_same rest false at = rest

-- the keys at which there is an entry
abbrev there : Rows → List Key → List Key
there es ks = filter (λ k. is_some (stored es k)) ks

has_there : (ks : List Key) (es : Rows) → HasTheKeysOf ks es → (q : Key) → has (there es ks) q ≡ is_some (stored es q)
has_there ks es all q =
    any-filter_same (eq_by_cmp key_cmp q) (λ k. is_some (stored es k)) (is_some (stored es q)) (λ k is. ap (λ (x : Key). is_some (stored es x)) (sym (same_key q k is))) ks ∙ either (is_some (stored es q)) refl
  where
    either : (b : Bool) → is_some (stored es q) ≡ b → (b && has ks q) ≡ b
    either true is = all q is
    either false is = refl

-- nothing stands at the others
rows_there : (ks : List Key) (es : Rows) (v : ℕ) → rows_at (with_versions (there es ks) es) v ≡ rows_at (with_versions ks es) v
rows_there [] es v = refl
rows_there (k ∷ ks) es v = by_entry (rows_there ks es v) (stored es k) refl
  where
    by_entry : rows_at (with_versions (there es ks) es) v ≡ rows_at (with_versions ks es) v → (o : Option ItemVersions) → stored es k ≡ o
        → rows_at (with_versions (cond (is_some o) (k ∷ there es ks) (there es ks)) es) v ≡ cons_option (option_map (λ i. (k, i)) (standing_at (unwrap_or o []) v)) (rows_at (with_versions ks es) v)
    by_entry rest None at = rest
    by_entry rest (Some vs) at = λ i. cons_option (option_map (λ x. (k, x)) (standing_at (unwrap_or (at i) []) v)) (rest i)

-- entries in the order of their keys are the same finite map
in_their_order : (ks : List Key) (es : Rows) → ((q : Key) → has ks q ≡ is_some (stored es q)) → finite.from_entries {R = key_cmp} (with_versions ks es) ≡ finite.from_entries es
in_their_order ks es just =
    finite.same_map keys_total keys_exact _ _ (λ q.
    get_tree (λ a b. refl) keys_total (with_versions ks es) q ∙ found_with ks es q ∙ ap (λ b. cond b (Some (versions_among es q)) None) (just q) ∙ either (stored es q) ∙ sym (get_tree (λ a b. refl) keys_total es q))
  where
    either : (o : Option ItemVersions) → cond (is_some o) (Some (unwrap_or o [])) None ≡ o
    either None = refl
    either (Some vs) = refl

rows_in_order : (g : KeyHistories) (ks : List Key) (es : Rows) (v : ℕ) → finite.from_entries es ≡ g → HasTheKeysOf ks es → IsStrictlySortedBy key_cmp ks → rows_at (with_versions ks es) v ≡ entries (view_at g v)
rows_in_order g ks es v is all h =
    let kept = there es ks in
    let ascend : IsStrictlySortedBy key_cmp kept = IsStrictlySortedBy-filter key_cmp (λ k. is_some (stored es k)) ks h in
    sym (rows_there ks es v)
    ∙ rows_stored g (with_versions kept es) v (in_their_order kept es (has_there ks es all) ∙ is) (subst (λ (l : List Key). IsStrictlySortedBy key_cmp l) (sym (keys_with kept es)) ascend)

pub page_stored : (g : KeyHistories) (ks : List Key) (es : Rows) (v : ℕ) (kind : Kind) (after : Option Key) (most : ℕ) → finite.from_entries es ≡ g → HasTheKeysOf ks es → IsStrictlySortedBy key_cmp ks
    → take most (map (λ (e : Key × Item). e.1) (filter (λ (e : Key × Item). is_of kind e.0 && comes_after after e.0) (rows_at (with_versions ks es) v))) ≡ page (view_at g v) kind after most
page_stored g ks es v kind after most is all h =
    ap (λ (l : List (Key × Item)). take most (map (λ e. e.1) (filter (λ e. is_of kind e.0 && comes_after after e.0) l))) (rows_in_order g ks es v is all h)

-- as many keys were used as there are histories, of which no two have the same key
pub as_many : (es : Rows) → IsDistinct (eq_by_cmp key_cmp) (keys_of es) → length es ≡ finite.len (finite.from_entries {R = key_cmp} es)
unfolding IsDistinct
as_many [] apart = sym (finite.len-empty key_cmp ItemVersions)
as_many (e ∷ es) apart =
    let rest = finite.from_entries {R = key_cmp} es in
    let new : finite.contains_key rest e.0 ≡ false = ap is_some (get_tree (λ a b. refl) keys_total es e.0 ∙ lookup-none (eq_by_cmp key_cmp e.0) es (none_among es apart.0)) in
    let before = as_many es apart.1 in
    let more = finite.len-insert keys_total rest e.0 e.1 ∙ ap (λ b. cond b (finite.len rest) (finite.len rest + 1)) new in
    omega (arith, before, more)
  where
    none_among : (fs : Rows) → AllByRecursion (λ k. eq_by_cmp key_cmp e.0 k ≡ false) (keys_of fs) → NonePasses (eq_by_cmp key_cmp e.0) fs
    none_among [] others = tt
    none_among (f ∷ fs) others = (others.0, none_among fs others.1)
