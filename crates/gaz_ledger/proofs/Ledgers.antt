-- What goes on holding of a ledger where it changes.
use Rattle.std.proofs.Common.{◌≡◌, ◌≤◌, ◌<◌, ◌+◌, ◌&&◌, ℕ, Bool, true, false, not, cond, List, [], ◌∷◌, ◌++◌, length, refl, sym, ap, subst, ◌∙◌, arith, unwrap_or, inl, inr}
use Rattle.std.specs.Prelude.{Option, Some, None}
use Rattle.std.proofs.lemmas.Bool.{cases_lt}
use Rattle.std.proofs.lemmas.List.Elements.{All-nil, All-weaker}
use Rattle.std.specs.Cmp.{eq_by_cmp_equiv}
use Rattle.std.specs.FinMap as finite
use Rattle.std.specs.FinMap.{get-entries}
use Rattle.std.specs.FinSet as set
use Rattle.std.specs.List.{All, list_any}
use Rattle.std.specs.Option.{IfSome}
use Rattle.std.specs.Ordering.{eq_by_cmp, nat_cmp}
use Rattle.gaz_histories.specs.Histories.{Version, before, standing_at, until, was_used_at}
use Rattle.gaz_records.proofs.KeyOrder.{keys_total}
use Rattle.gaz_records.specs.Keys.{key_cmp}
use Rattle.gaz_records.specs.declared.item.Item.{Item}
use Rattle.gaz_records.specs.declared.key.Key.{Key}
use Rattle.gaz_views.proofs.SameKeys.{same_key}
use Rattle.gaz_views.proofs.Judgements.{count_judged}
use Rattle.gaz_views.specs.Judgements.{judgements}
use Rattle.gaz_views.specs.Accounts.{Account, empty_account, view_in}
use Rattle.gaz_views.specs.View.{View, empty_view}
use Rattle.gaz_views.specs.Words.{entries}
use Rattle.gaz_views.specs.declared.verdict.Verdict.{Verdict}
use Rattle.gaz_standing.proofs.KeyHistories.{contains_at, get_at, get_now, holds_at, none_passed, past_view, same_views}
use Rattle.gaz_standing.proofs.Marked.{finds_with_more, still_finds}
use Rattle.gaz_standing.proofs.Versions.{before_next, before_within, cut_within, item_set, last, set_within, until_before, until_set}
use Rattle.gaz_standing.specs.KeyHistories.{ChangesAt, ItemVersions, KeyHistories, versions_at, view_at}
use Rattle.gaz_standing.specs.Indexes.{FindsAll, has_mark, is_under, marked_at, same_mark}
use Rattle.gaz_standing.specs.declared.index.Index.{Index}
use Rattle.gaz_standing.specs.declared.index.Mark.{Mark}
use Rattle.gaz_ledger.proofs.Becoming.{AreWithin, nothing_passed, passed_after, same_custody}
use Rattle.gaz_ledger.proofs.Judgements.{IsWithin, later_view, view_in_at}
use Rattle.gaz_ledger.proofs.Touched.{none_of, none_there}
use Rattle.gaz_ledger.specs.Custodies.{Custodies, custody_after, view_with}
use Rattle.gaz_ledger.specs.Ledgers.{Finds, IsLedger, account_at}

-- ---- what is found

abbrev pub Found : Index → Mark → Key → Option Item → Type 0
Found x m k o = IfSome o (λ i. has_mark m i ≡ true → is_under x m k ≡ true)

-- in an item's marks
pub found_at : (x : Index) (v : View) → FindsAll x (entries v) → (m : Mark) (k : Key) → Found x m k (finite.get v.items k)
found_at x v finds m k = subst (Found x m k) (sym (get-entries v.items k)) (finds m k)

pub finds_by : (x : Index) (v : View) → ((m : Mark) (k : Key) → Found x m k (finite.get v.items k)) → FindsAll x (entries v)
finds_by x v found m k = subst (Found x m k) (get-entries v.items k) (found m k)

abbrev pub More : Index → Index → Type 0
More x y = (m : Mark) (k : Key) → is_under x m k ≡ true → is_under y m k ≡ true

pub finds_more : (x y : Index) (g : KeyHistories) (n : ℕ) → More x y → Finds x g n → Finds y g n
finds_more x y g n more finds =
    record { last = finds_with_more x y (entries (view_at g n)) finds.last more; working = finds_with_more x y (entries (view_at g (n + 1))) finds.working more }

-- a key is taken from under a mark that its item has neither in the last view nor in the working one
pub finds_less : (x y : Index) (g : KeyHistories) (n : ℕ) (mark : Mark) (key : Key) → marked_at (entries (view_at g n)) mark key ≡ false → marked_at (entries (view_at g (n + 1))) mark key ≡ false
    → ((m : Mark) (k : Key) → is_under y m k ≡ (not (same_mark mark m && eq_by_cmp key_cmp key k) && is_under x m k)) → Finds x g n → Finds y g n
finds_less x y g n mark key before_that now less finds =
    record { last = still_finds x y (entries (view_at g n)) mark key finds.last before_that less; working = still_finds x y (entries (view_at g (n + 1))) mark key finds.working now less }

-- the volume is judged
pub finds_next : (x : Index) (g : KeyHistories) (n : ℕ) → IsWithin n g → Finds x g n → Finds x g (n + 1)
finds_next x g n within finds =
    record { last = finds.working; working = subst (λ (v : View). FindsAll x (entries v)) (later_view n g within (n + 1) (n + 1 + 1) (omega arith) (omega arith)) finds.working }

module _ (x : Index) (g h : KeyHistories) (key : Key) (vs : ItemVersions) (n : ℕ) (change : ChangesAt g h key vs) (past : until vs n ≡ until (versions_at g key) n) where
  -- what changes in the working view is found
  finds_changed : Finds x g n → ((m : Mark) → Found x m key (standing_at vs (n + 1))) → Finds x h n
  finds_changed finds now =
      record {
        last = subst (λ (v : View). FindsAll x (entries v)) (sym (past_view g h key vs change n past)) finds.last;
        working = finds_by x (view_at h (n + 1)) (λ m k. subst (Found x m k) (sym (get_now g h key vs change (n + 1) k)) (by_same m k (eq_by_cmp key_cmp k key) refl));
      }
    where
      by_same : (m : Mark) (k : Key) (b : Bool) → eq_by_cmp key_cmp k key ≡ b → Found x m k (cond b (standing_at vs (n + 1)) (finite.get (view_at g (n + 1)).items k))
      by_same m k true at = subst (λ (q : Key). Found x m q (standing_at vs (n + 1))) (sym (same_key k key at)) (now m)
      by_same m k false at = found_at x (view_at g (n + 1)) finds.working m k

pub finds_set : (x y : Index) (g h : KeyHistories) (key : Key) (n : ℕ) (o : Option Item) → More x y → IfSome o (λ i. (m : Mark) → has_mark m i ≡ true → is_under y m key ≡ true)
    → ChangesAt g h key (before (versions_at g key) (n + 1) ++ (n + 1, o) ∷ []) → Finds x g n → Finds y h n
finds_set x y g h key n o more marks change finds =
    finds_changed y g h key (before (versions_at g key) (n + 1) ++ (n + 1, o) ∷ []) n change (until_set (versions_at g key) (n + 1) n o (omega arith)) (finds_more x y g n more finds)
    (λ m. subst (Found y m key) (sym (item_set (versions_at g key) (n + 1) o)) (by_item o marks m))
  where
    by_item : (o : Option Item) → IfSome o (λ i. (m : Mark) → has_mark m i ≡ true → is_under y m key ≡ true) → (m : Mark) → Found y m key o
    by_item None h m = tt
    by_item (Some i) h m = h m

pub finds_cut : (x : Index) (g h : KeyHistories) (key : Key) (n : ℕ) → ChangesAt g h key (before (versions_at g key) (n + 1)) → Finds x g n → Finds x h n
finds_cut x g h key n change finds =
    let vs = versions_at g key in
    let as_last : standing_at (before vs (n + 1)) (n + 1) ≡ finite.get (view_at g n).items key = ap last (before_next vs n (n + 1) (omega arith)) ∙ sym (get_at g n key) in
    finds_changed x g h key (before vs (n + 1)) n change (until_before vs (n + 1) n (omega arith)) finds (λ m. subst (Found x m key) (sym as_last) (found_at x (view_at g n) finds.last m key))

-- ---- the whole

turned : (key k : Key) → eq_by_cmp key_cmp k key ≡ false → eq_by_cmp key_cmp key k ≡ false
turned key k e = (eq_by_cmp_equiv keys_total).symm key k ∙ e

-- the versions of another key
others : (g h : KeyHistories) (key : Key) (vs : ItemVersions) → ChangesAt g h key vs → (k : Key) → eq_by_cmp key_cmp k key ≡ false → versions_at h k ≡ versions_at g k
others g h key vs change k other = change k ∙ ap (λ b. cond b vs (versions_at g k)) (turned key k other)

pub nothing_there : (k : Key) → versions_at finite.empty k ≡ []
nothing_there k = ap (λ o. unwrap_or o []) (finite.get-empty key_cmp k)

pub ledger_new : (x : Index) → IsLedger 0 finite.empty x []
ledger_new x =
    record {
      finds = record { last = finds_none 0; working = finds_none 1 };
      within = λ k. subst (λ (vs : ItemVersions). All (λ (e : Version Item). (0 < e.0) × (e.0 ≤ 1)) vs) (sym (nothing_there k)) (All-nil (λ (e : Version Item). (0 < e.0) × (e.0 ≤ 1)));
      touched = λ k _. subst (λ (vs : ItemVersions). All (λ (e : Version Item). e.0 ≤ 0) vs) (sym (nothing_there k)) (All-nil (λ (e : Version Item). e.0 ≤ 0));
    }
  where
    finds_none : (v : ℕ) → FindsAll x (entries (view_at finite.empty v))
    finds_none v = finds_by x (view_at finite.empty v) (λ m k. subst (Found x m k) (sym (get_at finite.empty v k ∙ ap (λ vs. standing_at vs v) (nothing_there k))) tt)

pub ledger_set : (n : ℕ) (g h : KeyHistories) (x y : Index) (ks ls : List Key) (key : Key) (o : Option Item) → IsLedger n g x ks → Finds y h n → ls ≡ ks ++ key ∷ []
    → ChangesAt g h key (before (versions_at g key) (n + 1) ++ (n + 1, o) ∷ []) → IsLedger n h y ls
ledger_set n g h x y ks ls key o was finds is change =
    let vs = before (versions_at g key) (n + 1) ++ (n + 1, o) ∷ [] in
    record {
      finds = finds;
      within = holds_at g h key vs change (λ (ws : ItemVersions). All (λ (e : Version Item). (0 < e.0) × (e.0 ≤ n + 1)) ws) (set_within (versions_at g key) n o (was.within key)) was.within;
      touched = λ k none. let two = none_of (eq_by_cmp key_cmp k) ks key (ap (list_any (eq_by_cmp key_cmp k)) (sym is) ∙ none) in
          subst (λ (ws : ItemVersions). All (λ (e : Version Item). e.0 ≤ n) ws) (sym (others g h key vs change k two.1)) (was.touched k two.0);
    }

pub ledger_cut : (n : ℕ) (g h : KeyHistories) (x y : Index) (ks ls : List Key) (key : Key) → IsLedger n g x ks → Finds y h n → ks ≡ ls ++ key ∷ []
    → ChangesAt g h key (before (versions_at g key) (n + 1)) → IsLedger n h y ls
ledger_cut n g h x y ks ls key was finds is change =
    let vs = before (versions_at g key) (n + 1) in
    record {
      finds = finds;
      within = holds_at g h key vs change (λ (ws : ItemVersions). All (λ (e : Version Item). (0 < e.0) × (e.0 ≤ n + 1)) ws) (cut_within (versions_at g key) (n + 1) (n + 1) (was.within key)) was.within;
      touched = λ k none. by_key k none (eq_by_cmp key_cmp k key) refl;
    }
  where
    by_key : (k : Key) → list_any (eq_by_cmp key_cmp k) ls ≡ false → (b : Bool) → eq_by_cmp key_cmp k key ≡ b → All (λ (e : Version Item). e.0 ≤ n) (versions_at h k)
    by_key k none true at =
        let here : versions_at h k ≡ before (versions_at g key) (n + 1) = change k ∙ ap (λ b. cond b (before (versions_at g key) (n + 1)) (versions_at g k)) ((eq_by_cmp_equiv keys_total).symm key k ∙ at) in
        subst (λ (ws : ItemVersions). All (λ (e : Version Item). e.0 ≤ n) ws) (sym here) (before_within (versions_at g key) n)
    by_key k none false at =
        subst (λ (ws : ItemVersions). All (λ (e : Version Item). e.0 ≤ n) ws) (sym (others g h key (before (versions_at g key) (n + 1)) change k at))
        (was.touched k (ap (list_any (eq_by_cmp key_cmp k)) is ∙ none_there (eq_by_cmp key_cmp k) ls key none at))

pub ledger_closed : (n : ℕ) (g : KeyHistories) (x y : Index) (ks ls : List Key) → IsLedger n g x ks → Finds y g (n + 1) → ls ≡ [] → IsLedger (n + 1) g y ls
ledger_closed n g x y ks ls was finds is =
    record {
      finds = finds;
      within = λ k. All-weaker (λ (e : Version Item). (0 < e.0) × (e.0 ≤ n + 1)) (λ (e : Version Item). (0 < e.0) × (e.0 ≤ n + 1 + 1)) (λ e h. (h.0, (let le : e.0 ≤ n + 1 = h.1 in omega arith))) (versions_at g k) (was.within k);
      touched = λ k _. All-weaker (λ (e : Version Item). (0 < e.0) × (e.0 ≤ n + 1)) (λ (e : Version Item). e.0 ≤ n + 1) (λ e h. h.1) (versions_at g k) (was.within k);
    }

-- what was found is found
pub ledger_found : (n : ℕ) (g : KeyHistories) (x y : Index) (ks : List Key) → IsLedger n g x ks → (Finds x g n → Finds y g n) → IsLedger n g y ks
ledger_found n g x y ks was finds = record { finds = finds was.finds; within = was.within; touched = was.touched }

-- ---- reading

-- the last view and any later one are found
pub finds_at : (n : ℕ) (g : KeyHistories) (x : Index) (ks : List Key) → IsLedger n g x ks → (v : ℕ) → n ≤ v → FindsAll x (entries (view_at g v))
finds_at n g x ks is v le = elim (cases_lt n v) [
  | inl h ↦ subst (λ (w : View). FindsAll x (entries w)) (later_view n g is.within (n + 1) v (omega arith) h) is.finds.working
  | inr h ↦ let same : n ≡ v = omega arith in subst (λ (m : ℕ). FindsAll x (entries (view_at g m))) same is.finds.last
]

pub reached_of : (ds : List Verdict) (g : KeyHistories) (c : Custodies) (a : Account) → account_at ds g c ≡ a → length ds ≡ length a.judged
reached_of ds g c a is = sym (count_judged ds (view_with g c)) ∙ ap (λ (b : Account). length b.judged) is

pub finds_from : (ds : List Verdict) (g : KeyHistories) (c : Custodies) (x : Index) (ks : List Key) (a : Account) → IsLedger (length ds) g x ks → account_at ds g c ≡ a → (v : ℕ) → length a.judged ≤ v → FindsAll x (entries (view_at g v))
finds_from ds g c x ks a ledger is v le = finds_at (length ds) g x ks ledger v (omega (arith, reached_of ds g c a is))

-- a view of an account is that of its gazetteer
pub seen : (ds : List Verdict) (g : KeyHistories) (c : Custodies) (a : Account) → AreWithin (length ds) g c → account_at ds g c ≡ a → (v : ℕ) → view_with g c v ≡ view_in a v
seen ds g c a within is v = sym (view_in_at ds g c within v) ∙ ap (λ (b : Account). view_in b v) is

pub account_new : account_at [] finite.empty finite.empty ≡ empty_account
unfolding judgements empty_view
account_new =
    let passed : custody_after finite.empty 1 ≡ finite.empty = same_custody (custody_after finite.empty 1) finite.empty
    (λ k. passed_after finite.empty 1 k ∙ ap (λ vs. standing_at vs 1) (nothing_passed k) ∙ sym (finite.get-empty nat_cmp k)) in
    let none : view_at finite.empty 1 ≡ empty_view = same_views (view_at finite.empty 1) empty_view (none_passed finite.empty 1)
    (λ k. get_at finite.empty 1 k ∙ ap (λ (vs : ItemVersions). standing_at vs 1) (nothing_there k) ∙ sym (finite.get-empty key_cmp k))
    (λ k. contains_at finite.empty 1 k ∙ ap (λ (vs : ItemVersions). was_used_at vs 1) (nothing_there k) ∙ sym (set.contains-empty key_cmp k)) in
    λ i. record { judged = []; working = record (none i) { custody = passed i } }
