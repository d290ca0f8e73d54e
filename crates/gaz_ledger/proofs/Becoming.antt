-- What became of numbers, and the views of a gazetteer with it.
use Rattle.std.proofs.Common.{◌≡◌, ◌≤◌, ◌<◌, ◌+◌, ℕ, Bool, true, false, cond, List, [], ◌∷◌, ◌++◌, refl, sym, ap, subst, ◌∙◌, arith, unwrap_or, eqb-true}
use Rattle.std.specs.Prelude.{◌==◌, Option, Some, None}
use Rattle.std.proofs.lemmas.List.Elements.{All-nil, All-weaker}
use Rattle.std.specs.Cmp.{eq_by_cmp_equiv, nat_cmp_total, unsigned_tied}
use Rattle.std.specs.FinMap as finite
use Rattle.std.specs.FinMap.{get-entries, entries_sorted, nat_cmp-IsAntisymmetric}
use Rattle.std.specs.List.{All, list_any}
use Rattle.std.specs.Map.{lookup}
use Rattle.std.specs.Ordering.{eq_by_cmp, nat_cmp}
use Rattle.gaz_records.specs.declared.item.Item.{Item}
use Rattle.gaz_histories.specs.Histories.{Version, Versions, before, standing_at, until}
use Rattle.gaz_views.specs.View.{empty_view}
use Rattle.gaz_views.specs.declared.custody.Custody.{Custody}
use Rattle.gaz_standing.proofs.KeyHistories.{first_view, settled_view}
use Rattle.gaz_standing.proofs.RowsAt.{same_rows}
use Rattle.gaz_standing.proofs.Versions.{before_within, cut_within, item_set, last, none_at_first, set_within, settled}
use Rattle.gaz_standing.specs.KeyHistories.{KeyHistories, rows_at, versions_at, view_at}
use Rattle.gaz_ledger.proofs.Touched.{none_of, none_there}
use Rattle.gaz_ledger.specs.Custodies.{BecomesAt, Custodies, ForgetsAt, IsPassing, PassesAt, custody_after, passed_at, view_with}
use Rattle.gaz_records.specs.declared.key.Key.{Key}

abbrev Passage : Type 0
Passage = Version Custody

same_number : (a b : ℕ) → eq_by_cmp nat_cmp a b ≡ true → a ≡ b
same_number a b e = eqb-true a b (sym (unsigned_tied a b) ∙ e)

-- ---- what last became of a number

pub passed_after : (c : Custodies) (v n : ℕ) → finite.get (custody_after c v) n ≡ standing_at (passed_at c n) v
unfolding custody_after
passed_after c v n =
    finite.get-from_entries nat_cmp_total (rows_at (finite.entries c) v) n ∙ same_rows nat_cmp same_number (finite.entries c) (entries_sorted c) v n ∙ ap (λ o. standing_at (unwrap_or o []) v) (sym (get-entries c n))

pub same_custody : (m n : finite.FinMap nat_cmp Custody) → ((k : ℕ) → finite.get m k ≡ finite.get n k) → m ≡ n
same_custody m n is = finite.same_map nat_cmp_total nat_cmp-IsAntisymmetric m n is

-- where the same has become of each number
pub same_after : (c d : Custodies) (v w : ℕ) → ((n : ℕ) → standing_at (passed_at c n) v ≡ standing_at (passed_at d n) w) → custody_after c v ≡ custody_after d w
same_after c d v w alike = same_custody (custody_after c v) (custody_after d w) (λ n. passed_after c v n ∙ alike n ∙ sym (passed_after d w n))

abbrev pub IsPassedWithin : ℕ → Custodies → Type 0
IsPassedWithin n c = (k : ℕ) → All (λ (e : Passage). (0 < e.0) × (e.0 ≤ n + 1)) (passed_at c k)

-- where nothing more becomes of numbers
pub settled_after : (c : Custodies) (n v w : ℕ) → n ≤ v → n ≤ w → ((k : ℕ) → All (λ (e : Passage). e.0 ≤ n) (passed_at c k)) → custody_after c v ≡ custody_after c w
settled_after c n v w le lf all = same_after c c v w (λ k. ap last (settled (passed_at c k) n v le (all k) ∙ sym (settled (passed_at c k) n w lf (all k))))

-- before the first volume
pub first_after : (c : Custodies) (n : ℕ) → IsPassedWithin n c → custody_after c 0 ≡ finite.empty
first_after c n within = same_custody (custody_after c 0) finite.empty (λ k. passed_after c 0 k ∙ ap last (none_at_first (passed_at c k) (n + 1) (within k)) ∙ sym (finite.get-empty nat_cmp k))

-- ---- as it is kept, in any order

abbrev Rows : Type 0
Rows = List (ℕ × Versions Custody)

abbrev stored : Rows → ℕ → Option (Versions Custody)
stored es n = lookup (λ m. n == m) es

abbrev Writes : Rows → Rows → ℕ → Option (Versions Custody) → Type 0
Writes es fs k o = (q : ℕ) → stored fs q ≡ cond (k == q) o (stored es q)

found_number : (es : Rows) (q : ℕ) → finite.find nat_cmp q es ≡ stored es q
found_number [] q = refl
found_number (e ∷ es) q = ap (λ b. cond b (Some e.1) (finite.find nat_cmp q es)) (unsigned_tied q e.0) ∙ ap (cond (q == e.0) (Some e.1)) (found_number es q)

got : (es : Rows) (q : ℕ) → finite.get (finite.from_entries {R = nat_cmp} es) q ≡ stored es q
got es q = finite.get-from_entries nat_cmp_total es q ∙ found_number es q

pub passed_stored : (c : Custodies) (es : Rows) (n : ℕ) → finite.from_entries es ≡ c → passed_at c n ≡ unwrap_or (stored es n) []
passed_stored c es n is = ap (λ (d : Custodies). passed_at d n) (sym is) ∙ ap (λ o. unwrap_or o []) (got es n)

-- another history of a number
pub becomes : (c : Custodies) (es fs : Rows) (k : ℕ) (vs ws : Versions Custody) → finite.from_entries es ≡ c → Writes es fs k (Some vs) → vs ≡ ws → BecomesAt c (finite.from_entries fs) k ws
becomes c es fs k vs ws is h same n =
    passed_stored (finite.from_entries fs) fs n refl ∙ ap (λ o. unwrap_or o []) (h n) ∙ of_cond (k == n) ∙ (λ i. cond (k == n) (same i) (sym (passed_stored c es n is) i))
  where
    of_cond : (b : Bool) → unwrap_or (cond b (Some vs) (stored es n)) [] ≡ cond b vs (unwrap_or (stored es n) [])
    of_cond true = refl
    of_cond false = refl

-- nothing is left of it, and it is taken out
pub becomes_none : (c : Custodies) (es ms fs : Rows) (k : ℕ) (vs ws : Versions Custody) → finite.from_entries es ≡ c → Writes es ms k (Some vs) → Writes ms fs k None → [] ≡ ws → BecomesAt c (finite.from_entries fs) k ws
becomes_none c es ms fs k vs ws is first second none n =
    passed_stored (finite.from_entries fs) fs n refl ∙ ap (λ o. unwrap_or o []) (second n ∙ ap (cond (k == n) None) (first n)) ∙ of_cond (k == n) ∙ (λ i. cond (k == n) (none i) (sym (passed_stored c es n is) i))
  where
    of_cond : (b : Bool) → unwrap_or (cond b None (cond b (Some vs) (stored es n))) [] ≡ cond b [] (unwrap_or (stored es n) [])
    of_cond true = refl
    of_cond false = refl

-- where its versions are those that it had
pub becomes_again : (c : Custodies) (es fs : Rows) (k : ℕ) (vs ws : Versions Custody) → finite.from_entries es ≡ c → Writes es fs k (Some vs) → vs ≡ ws → Some ws ≡ stored es k → finite.from_entries fs ≡ c
becomes_again c es fs k vs ws is h same there =
    finite.same_map nat_cmp_total nat_cmp-IsAntisymmetric (finite.from_entries {R = nat_cmp} fs) (finite.from_entries {R = nat_cmp} es) (λ q. got fs q ∙ h q ∙ by_same q (k == q) refl ∙ sym (got es q)) ∙ is
  where
    by_same : (q : ℕ) (b : Bool) → (k == q) ≡ b → cond b (Some vs) (stored es q) ≡ stored es q
    by_same q true at = ap Some same ∙ there ∙ ap (stored es) (eqb-true k q at)
    by_same q false at = refl

-- there is nothing to forget of a number that was never passed on
pub forgets_none : (c : Custodies) (v k : ℕ) → [] ≡ passed_at c k → ForgetsAt c c v k
forgets_none c v k none n = by_same (k == n) refl
  where
    by_same : (b : Bool) → (k == n) ≡ b → passed_at c n ≡ cond b (before (passed_at c k) v) (passed_at c n)
    by_same true at = ap (passed_at c) (sym (eqb-true k n at)) ∙ sym none ∙ ap (λ (vs : Versions Custody). before vs v) none
    by_same false at = refl

-- ---- where something becomes of one number

module _ (c d : Custodies) (uprn : ℕ) (vs : Versions Custody) (change : BecomesAt c d uprn vs) where
  alike : {X : Type 0} (f : Versions Custody → X) → f vs ≡ f (passed_at c uprn) → (k : ℕ) → f (passed_at d k) ≡ f (passed_at c k)
  alike f here k = ap f (change k) ∙ by_same (uprn == k) refl
    where
      by_same : (b : Bool) → (uprn == k) ≡ b → f (cond b vs (passed_at c k)) ≡ f (passed_at c k)
      by_same true at = here ∙ ap (λ (m : ℕ). f (passed_at c m)) (eqb-true uprn k at)
      by_same false at = refl

  pub all_at : (P : Versions Custody → Type 0) → P vs → ((k : ℕ) → P (passed_at c k)) → (k : ℕ) → P (passed_at d k)
  all_at P here all k = subst P (sym (change k)) (by_same (uprn == k))
    where
      by_same : (b : Bool) → P (cond b vs (passed_at c k))
      by_same true = here
      by_same false = all k

  pub past_after : (v : ℕ) → until vs v ≡ until (passed_at c uprn) v → custody_after d v ≡ custody_after c v
  past_after v here = same_after d c v v (alike (λ ws. standing_at ws v) (ap last here))

  pub inserted_after : (v : ℕ) (x : Custody) → standing_at vs v ≡ Some x → custody_after d v ≡ finite.insert (custody_after c v) uprn x
  inserted_after v x is = same_custody (custody_after d v) (finite.insert (custody_after c v) uprn x)
      (λ k. passed_after d v k ∙ ap (λ ws. standing_at ws v) (change k) ∙ by_same k (uprn == k) ∙ sym (finite.get-insert nat_cmp_total (custody_after c v) uprn x k ∙ ap (λ b. cond b (Some x) (finite.get (custody_after c v) k)) (turned k)))
    where
      turned : (k : ℕ) → eq_by_cmp nat_cmp k uprn ≡ (uprn == k)
      turned k = (eq_by_cmp_equiv nat_cmp_total).symm k uprn ∙ unsigned_tied uprn k

      by_same : (k : ℕ) (b : Bool) → standing_at (cond b vs (passed_at c k)) v ≡ cond b (Some x) (finite.get (custody_after c v) k)
      by_same k true = is
      by_same k false = sym (passed_after c v k)

-- what last became of the number is put back
pub put_back : (c d e : Custodies) (uprn n : ℕ) (x y : Option Custody) → PassesAt c d n uprn x → PassesAt d e n uprn y → y ≡ standing_at (passed_at c uprn) n → custody_after e n ≡ custody_after c n
put_back c d e uprn n x y first second is = same_after e c n n (λ k. ap (λ ws. standing_at ws n) (second k) ∙ by_same k (uprn == k) refl)
  where
    by_same : (k : ℕ) (b : Bool) → (uprn == k) ≡ b → standing_at (cond b (before (passed_at d uprn) n ++ (n, y) ∷ []) (passed_at d k)) n ≡ standing_at (passed_at c k) n
    by_same k true at = item_set (passed_at d uprn) n y ∙ is ∙ ap (λ (m : ℕ). standing_at (passed_at c m) n) (eqb-true uprn k at)
    by_same k false at = ap (λ ws. standing_at ws n) (first k ∙ ap (λ b. cond b (before (passed_at c uprn) n ++ (n, x) ∷ []) (passed_at c k)) at)

-- ---- numbers of a ledger

reversed : (a b : ℕ) → (a == b) ≡ (b == a)
reversed a b = sym (unsigned_tied a b) ∙ (eq_by_cmp_equiv nat_cmp_total).symm a b ∙ unsigned_tied b a

-- more numbers may have been passed on
pub passing_more : (n : ℕ) (c : Custodies) (ks ls : List ℕ) (k : ℕ) → ls ≡ ks ++ k ∷ [] → IsPassing n c ks → IsPassing n c ls
passing_more n c ks ls k is was =
    record {
      within = was.within;
      touched = λ m none. was.touched m (none_of (λ j. m == j) ks k (ap (λ (l : List ℕ). list_any (λ j. m == j) l) (sym is) ∙ none)).0;
    }

-- a number that is among those that were passed on
pub passing_set : (n : ℕ) (c d : Custodies) (ks ls : List ℕ) (k : ℕ) (o : Option Custody) → ls ≡ ks ++ k ∷ [] → IsPassing n c ls → PassesAt c d (n + 1) k o → IsPassing n d ls
passing_set n c d ks ls k o is was change =
    record {
      within = all_at c d k (before (passed_at c k) (n + 1) ++ (n + 1, o) ∷ []) change (λ (ws : Versions Custody). All (λ (e : Passage). (0 < e.0) × (e.0 ≤ n + 1)) ws) (set_within (passed_at c k) n o (was.within k)) was.within;
      touched = λ m none. subst (λ (ws : Versions Custody). All (λ (e : Passage). e.0 ≤ n) ws) (sym (change m ∙ ap (λ b. cond b (before (passed_at c k) (n + 1) ++ (n + 1, o) ∷ []) (passed_at c m)) (other m none))) (was.touched m none);
    }
  where
    other : (m : ℕ) → list_any (λ j. m == j) ls ≡ false → (k == m) ≡ false
    other m none = reversed k m ∙ (none_of (λ j. m == j) ks k (ap (λ (l : List ℕ). list_any (λ j. m == j) l) (sym is) ∙ none)).1

-- what became of it is forgotten
pub passing_cut : (n : ℕ) (c d : Custodies) (ks ls : List ℕ) (k : ℕ) → ks ≡ ls ++ k ∷ [] → IsPassing n c ks → ForgetsAt c d (n + 1) k → IsPassing n d ls
passing_cut n c d ks ls k is was change =
    record {
      within = all_at c d k (before (passed_at c k) (n + 1)) change (λ (ws : Versions Custody). All (λ (e : Passage). (0 < e.0) × (e.0 ≤ n + 1)) ws) (cut_within (passed_at c k) (n + 1) (n + 1) (was.within k)) was.within;
      touched = λ m none. subst (λ (ws : Versions Custody). All (λ (e : Passage). e.0 ≤ n) ws) (sym (change m)) (by_same m none (k == m) refl);
    }
  where
    by_same : (m : ℕ) → list_any (λ j. m == j) ls ≡ false → (b : Bool) → (k == m) ≡ b → All (λ (e : Passage). e.0 ≤ n) (cond b (before (passed_at c k) (n + 1)) (passed_at c m))
    by_same m none true at = before_within (passed_at c k) n
    by_same m none false at = was.touched m (ap (list_any (λ j. m == j)) is ∙ none_there (λ j. m == j) ls k none (reversed m k ∙ at))

pub passing_closed : (n : ℕ) (c : Custodies) (ks ls : List ℕ) → IsPassing n c ks → IsPassing (n + 1) c ls
passing_closed n c ks ls was =
    record {
      within = λ k. All-weaker (λ (e : Passage). (0 < e.0) × (e.0 ≤ n + 1)) (λ (e : Passage). (0 < e.0) × (e.0 ≤ n + 1 + 1)) (λ e h. (h.0, (let le : e.0 ≤ n + 1 = h.1 in omega arith))) (passed_at c k) (was.within k);
      touched = λ k _. All-weaker (λ (e : Passage). (0 < e.0) × (e.0 ≤ n + 1)) (λ (e : Passage). e.0 ≤ n + 1) (λ e h. h.1) (passed_at c k) (was.within k);
    }

pub nothing_passed : (k : ℕ) → passed_at finite.empty k ≡ []
nothing_passed k = ap (λ (o : Option (Versions Custody)). unwrap_or o []) (finite.get-empty nat_cmp k)

pub passing_new : (ls : List ℕ) → IsPassing 0 finite.empty ls
passing_new ls =
    record {
      within = λ k. subst (λ (ws : Versions Custody). All (λ (e : Passage). (0 < e.0) × (e.0 ≤ 1)) ws) (sym (nothing_passed k)) (All-nil (λ (e : Passage). (0 < e.0) × (e.0 ≤ 1)));
      touched = λ k _. subst (λ (ws : Versions Custody). All (λ (e : Passage). e.0 ≤ 0) ws) (sym (nothing_passed k)) (All-nil (λ (e : Passage). e.0 ≤ 0));
    }

-- ---- views with what became of numbers

abbrev pub AreWithin : ℕ → KeyHistories → Custodies → Type 0
AreWithin n g c = ((k : Key) → All (λ (e : Version Item). (0 < e.0) × (e.0 ≤ n + 1)) (versions_at g k)) × IsPassedWithin n c

pub same_with : (g h : KeyHistories) (c d : Custodies) (v w : ℕ) → view_at g v ≡ view_at h w → custody_after c v ≡ custody_after d w → view_with g c v ≡ view_with h d w
same_with g h c d v w items custody = λ i. record (items i) { custody = custody i }

-- the working view is that of any later volume too
pub later_with : (n : ℕ) (g : KeyHistories) (c : Custodies) → AreWithin n g c → (v w : ℕ) → n < v → n < w → view_with g c v ≡ view_with g c w
later_with n g c within v w after behind =
    same_with g g c c v w (settled_view g (n + 1) v w (omega arith) (omega arith) (λ k i d less. (within.0 k i d less).1))
    (settled_after c (n + 1) v w (omega arith) (omega arith) (λ k i d less. (within.1 k i d less).1))

pub first_with : (n : ℕ) (g : KeyHistories) (c : Custodies) → AreWithin n g c → view_with g c 0 ≡ empty_view
unfolding empty_view
first_with n g c within = λ i. record (first_view g (n + 1) within.0 i) { custody = first_after c n within.1 i }
