-- What became of numbers, by what rows there are.
use Rattle.std.proofs.Common.{◌≡◌, ◌≢◌, ◌∙◌, ◌≤◌, ◌<◌, ◌+◌, ◌==◌, ◌⊎◌, ◌&&◌, inl, inr, ℕ, Bool, true, false, nat_le, nat_lt, [], ◌∷◌, map, filter, refl, sym, ap, subst, arith, eqb-true, true≢false}
use Rattle.std.proofs.lemmas.Bool.{and_from, and_parts, cases_lt}
use Rattle.std.proofs.lemmas.Bool.Decides.{nat_tests}
use Rattle.std.specs.Prelude.{Option, Some, None}
use Rattle.std.specs.Cmp.{nat_cmp_total}
use Rattle.std.specs.FinMap as finite
use Rattle.std.specs.FinMap.{nat_cmp-IsAntisymmetric}
use Rattle.std.specs.FinSet as set
use Rattle.sqlite_rules.specs.Lists.{Has}
use Rattle.sqlite_rules.proofs.ListLemmas.{has_filtered, has_kept}
use Rattle.sqlite_rules.proofs.ProbeLemmas.{has_mapped, mapped_has}
use Rattle.gaz_records.proofs.KeyOrder.{keys_exact, keys_total}
use Rattle.gaz_records.specs.declared.key.Key.{Key}
use Rattle.gaz_records.specs.declared.key.Key.TheVariants as key
use Rattle.gaz_views.specs.declared.custody.Custody.{Custody}
use Rattle.gaz_overlay.specs.Passages.{PassageRow, custody_after, has_passed, is_passed_by, lasts_after, passed_keys}
use Rattle.gaz_overlay.specs.Rows.{never}
use Rattle.gaz_row_items.proofs.Pairs.{AreSingle, alike, alike_set, at_one, in_set, missing, not_in_set}
use Rattle.gaz_row_items.proofs.PassagesAt.{Rows, custody_is, keys_at, passings_at}
use Rattle.gaz_kept.specs.Histories.{AreSame}
use Rattle.gaz_kept.specs.Judging.{ArePassedLater}
use Rattle.gaz_kept.specs.Kept.{ArePassages, IsFollowed, IsPassedUntil}
use Rattle.gaz_kept.specs.Passages.{ArePassedOnce, IsLastOf, IsLastPassage, LastIsCurrent, RowsSay}
use Rattle.gaz_kept.proofs.Views.{le_is, lt_is, none_pass}

le_so : (a b : ℕ) → a ≤ b → nat_le a b ≡ true
le_so a b h = grind (arith, nat_tests)

lt_so : (a b : ℕ) → a < b → nat_lt a b ≡ true
lt_so a b h = grind (arith, nat_tests)

le_no : (a b : ℕ) → b < a → nat_le a b ≡ false
le_no a b h = grind (arith, nat_tests)

-- ---- the entries

pub record Lasts (t : ℕ) (p : PassageRow) : Type 0 where
  pub born : p.born ≤ t
  pub gone : t < p.gone

record IsPassing (t : ℕ) (rows : Rows) (n : ℕ) (x : Custody) : Type 0 where
  row : PassageRow
  there : Has rows row
  lasts : Lasts t row
  number : row.uprn ≡ n
  custody : row.custody ≡ x

passing_of : (t : ℕ) (rows : Rows) (n : ℕ) (x : Custody) → Has (passings_at t rows) (n, x) → IsPassing t rows n x
passing_of t rows n x h =
    let p = has_mapped (λ (p : PassageRow). (p.uprn, p.custody)) (filter (lasts_after t) rows) (n, x) h in
    let f = has_filtered (lasts_after t) rows p.0 p.1 in
    let both = and_parts (nat_le p.0.born t) (nat_lt t p.0.gone) f.1 in
    record { row = p.0; there = f.0; lasts = record { born = le_is p.0.born t both.0; gone = lt_is t p.0.gone both.1 }; number = ap (λ (e : ℕ × Custody). e.0) (sym p.2); custody = ap (λ (e : ℕ × Custody). e.1) (sym p.2) }

passing_as : (t : ℕ) (rows : Rows) (n : ℕ) (x : Custody) → IsPassing t rows n x → Has (passings_at t rows) (n, x)
passing_as t rows n x e =
    subst (λ p. Has (passings_at t rows) p) (λ i. (e.number i, e.custody i))
    (mapped_has (λ (p : PassageRow). (p.uprn, p.custody)) (filter (lasts_after t) rows) e.row
    (has_kept (lasts_after t) rows e.row e.there (and_from (nat_le e.row.born t) (nat_lt t e.row.gone) (le_so e.row.born t e.lasts.born) (lt_so t e.row.gone e.lasts.gone))))

record IsKeyOf (t : ℕ) (rows : Rows) (q : Key) : Type 0 where
  row : PassageRow
  there : Has rows row
  born : row.born ≤ t
  its_key : key.Blpu row.uprn ≡ q

key_from : (t : ℕ) (rows : Rows) (q : Key) → Has (keys_at t rows) q → IsKeyOf t rows q
key_from t rows q h =
    let p = has_mapped (λ (p : PassageRow). key.Blpu p.uprn) (filter (is_passed_by t) rows) q h in
    let f = has_filtered (is_passed_by t) rows p.0 p.1 in
    record { row = p.0; there = f.0; born = le_is p.0.born t f.1; its_key = sym p.2 }

key_as : (t : ℕ) (rows : Rows) (q : Key) → IsKeyOf t rows q → Has (keys_at t rows) q
key_as t rows q u = subst (λ k. Has (keys_at t rows) k) u.its_key
    (mapped_has (λ (p : PassageRow). key.Blpu p.uprn) (filter (is_passed_by t) rows) u.row (has_kept (is_passed_by t) rows u.row u.there (le_so u.row.born t u.born)))

-- ---- of a number one row lasts

pub record AreInTurn (rows : Rows) : Type 0 where
  pub once : ArePassedOnce rows
  pub in_turn : (a b : PassageRow) → Has rows a → Has rows b → a.uprn ≡ b.uprn → a.born < b.born → a.gone ≤ b.born

pub turn_of : (n : ℕ) (rows : Rows) → ArePassages n rows → AreInTurn rows
turn_of n rows are = record { once = are.once; in_turn = are.in_turn }

single_at : (rows : Rows) → AreInTurn rows → (t : ℕ) → AreSingle (passings_at t rows)
single_at rows turn t n x y hx hy =
    let a = passing_of t rows n x hx in
    let b = passing_of t rows n y hy in
    sym a.custody ∙ ap (λ (p : PassageRow). p.custody) (one a b (cases_lt a.row.born b.row.born) (cases_lt b.row.born a.row.born)) ∙ b.custody
  where
    one : (a : IsPassing t rows n x) (b : IsPassing t rows n y) → (a.row.born < b.row.born) ⊎ (b.row.born ≤ a.row.born) → (b.row.born < a.row.born) ⊎ (a.row.born ≤ b.row.born) → a.row ≡ b.row
    one a b (inl less) other = let g = turn.in_turn a.row b.row a.there b.there (a.number ∙ sym b.number) less in let u = a.lasts.gone in let w = b.lasts.born in absurd (omega arith)
    one a b (inr le) (inl less) = let g = turn.in_turn b.row a.row b.there a.there (b.number ∙ sym a.number) less in let u = b.lasts.gone in let w = a.lasts.born in absurd (omega arith)
    one a b (inr le) (inr ge) = let e : a.row.born ≡ b.row.born = omega arith in turn.once a.row b.row a.there b.there (a.number ∙ sym b.number) e

-- ---- the same rows

pub same_custody : (old new : Rows) → AreInTurn old → AreSame old new → (t : ℕ) → custody_after new t ≡ custody_after old t
unfolding custody_after
same_custody old new turn same t =
    alike nat_cmp_total nat_cmp-IsAntisymmetric (passings_at t new) (passings_at t old) (single_at old turn t)
    (λ n x h. let e = passing_of t new n x h in passing_as t old n x (record { row = e.row; there = same.only e.row e.there; lasts = e.lasts; number = e.number; custody = e.custody }))
    (λ n x h. let e = passing_of t old n x h in passing_as t new n x (record { row = e.row; there = same.kept e.row e.there; lasts = e.lasts; number = e.number; custody = e.custody }))

pub same_keys : (old new : Rows) → AreSame old new → (t : ℕ) → passed_keys new t ≡ passed_keys old t
unfolding passed_keys
same_keys old new same t =
    alike_set keys_total keys_exact (keys_at t new) (keys_at t old)
    (λ q h. let u = key_from t new q h in key_as t old q (record { row = u.row; there = same.only u.row u.there; born = u.born; its_key = u.its_key }))
    (λ q h. let u = key_from t old q h in key_as t new q (record { row = u.row; there = same.kept u.row u.there; born = u.born; its_key = u.its_key }))

pub passages_same : (n : ℕ) (old new : Rows) → AreSame old new → ArePassages n old → ArePassages n new
passages_same n old new same are = record {
  until = λ p there. are.until p (same.only p there);
  once = λ a b ha hb. are.once a b (same.only a ha) (same.only b hb);
  in_turn = λ a b ha hb. are.in_turn a b (same.only a ha) (same.only b hb);
  goes_on = λ p there. by_next p (are.goes_on p (same.only p there));
}
  where
    by_next : (p : PassageRow) → (p.gone ≡ never) ⊎ IsFollowed old p → (p.gone ≡ never) ⊎ IsFollowed new p
    by_next p (inl current) = inl current
    by_next p (inr f) = inr (record { next = f.next; there = same.kept f.next f.there; of_number = f.of_number; born = f.born })

-- through one volume more
pub passages_next : (n : ℕ) (rows : Rows) → ArePassages n rows → ArePassages (n + 1) rows
passages_next n rows are = record { until = λ p there. later p (are.until p there); once = are.once; in_turn = are.in_turn; goes_on = are.goes_on }
  where
    gone : (p : PassageRow) → (p.gone ≤ n) ⊎ (p.gone ≡ never) → (p.gone ≤ n + 1) ⊎ (p.gone ≡ never)
    gone p (inl le) = inl (omega arith)
    gone p (inr current) = inr current

    later : (p : PassageRow) → IsPassedUntil n p → IsPassedUntil (n + 1) p
    later p u = record { born = (let b = u.born in omega arith); gone = gone p u.gone; lasts = u.lasts }

pub no_passages : (n : ℕ) → ArePassages n []
no_passages n = record { until = λ p none. absurd none; once = λ a b none. absurd none; in_turn = λ a b none. absurd none; goes_on = λ p none. absurd none }

-- ---- the row that was born last

-- a row that wasn't gone when the next would have come is the one that lasts
lasts_on : (n t uprn : ℕ) (rows : Rows) (p : PassageRow) → t < never → ArePassages n rows → IsLastPassage t rows uprn p → Lasts t p
lasts_on n t uprn rows p room are last = record { born = last.born; gone = by_next (are.goes_on p last.there) }
  where
    by_next : (p.gone ≡ never) ⊎ IsFollowed rows p → t < p.gone
    by_next (inl current) = omega (arith, current)
    by_next (inr f) = by_birth (cases_lt t f.next.born)
      where
        by_birth : (t < f.next.born) ⊎ (f.next.born ≤ t) → t < p.gone
        by_birth (inl less) = let e = f.born in omega arith
        by_birth (inr le) =
            let early = last.last f.next f.there (f.of_number ∙ last.of_number) le in
            let lasts = (are.until p last.there).lasts in
            let e = f.born in
            absurd (omega arith)

same_number : (m n : ℕ) → key.Blpu m ≡ key.Blpu n → m ≡ n
same_number m n is = cc

pub rows_say : RowsSay
unfolding passed_keys
rows_say n t uprn rows None room are none = record {
  custody = custody_is rows t uprn ∙ missing nat_cmp_total nat_cmp-IsAntisymmetric uprn (passings_at t rows) (λ x h. let e = passing_of t rows uprn x h in none e.row e.there e.number e.lasts.born);
  used = not_in_set keys_total keys_exact (key.Blpu uprn) (keys_at t rows) (λ h. let u = key_from t rows (key.Blpu uprn) h in none u.row u.there (same_number u.row.uprn uprn u.its_key) u.born);
}
rows_say n t uprn rows (Some p) room are last = record {
  custody = custody_is rows t uprn ∙ at_one nat_cmp_total nat_cmp-IsAntisymmetric uprn (passings_at t rows) p.custody (single_at rows (turn_of n rows are) t)
      (passing_as t rows uprn p.custody (record { row = p; there = last.there; lasts = lasts_on n t uprn rows p room are last; number = last.of_number; custody = refl }));
  used = in_set keys_total keys_exact (key.Blpu uprn) (keys_at t rows) (key_as t rows (key.Blpu uprn) (record { row = p; there = last.there; born = last.born; its_key = ap key.Blpu last.of_number }));
}

pub last_is_current : LastIsCurrent
last_is_current n uprn rows p are last = by_next (are.goes_on p last.there)
  where
    by_next : (p.gone ≡ never) ⊎ IsFollowed rows p → p.gone ≡ never
    by_next (inl current) = current
    by_next (inr f) =
        let until = (are.until f.next f.there).born in
        let early = last.last f.next f.there (f.of_number ∙ last.of_number) until in
        let lasts = (are.until p last.there).lasts in
        let e = f.born in
        absurd (omega arith)

-- the key of no number was never passed on
pub no_key_passed : (rows : Rows) (t : ℕ) (q : Key) → ((n : ℕ) → key.Blpu n ≢ q) → has_passed rows t q ≡ false
unfolding passed_keys
no_key_passed rows t q none = not_in_set keys_total keys_exact q (keys_at t rows) (λ h. let u = key_from t rows q h in none u.row.uprn u.its_key)

-- the row of a number that was born last until a volume, where one was
pub record Found (t uprn : ℕ) (rows : Rows) : Type 0 where
  pub row : Option PassageRow
  pub is : IsLastOf t rows uprn row

pub find_last : (t uprn : ℕ) (rows : Rows) → Found t uprn rows
find_last t uprn [] = record { row = None; is = λ r none. absurd none }
find_last t uprn (p ∷ rows) = by_number (find_last t uprn rows) (p.uprn == uprn) refl (cases_lt t p.born)
  where
    passed_over : (¬ (p.uprn ≡ uprn)) ⊎ (t < p.born) → (o : Option PassageRow) → IsLastOf t rows uprn o → IsLastOf t (p ∷ rows) uprn o
    passed_over why None none = λ r there number born. by_place r there number born
      where
        by_place : (r : PassageRow) → (r ≡ p) ⊎ Has rows r → r.uprn ≡ uprn → r.born ≤ t → ⊥
        by_place r (inl same) number born = over why
          where
            over : (¬ (p.uprn ≡ uprn)) ⊎ (t < p.born) → ⊥
            over (inl other) = other (ap (λ (s : PassageRow). s.uprn) (sym same) ∙ number)
            over (inr late) = let e = ap (λ (s : PassageRow). s.born) same in omega arith
        by_place r (inr there) number born = none r there number born
    passed_over why (Some q) last = record { there = inr last.there; of_number = last.of_number; born = last.born; last = λ r there number born. by_place r there number born }
      where
        by_place : (r : PassageRow) → (r ≡ p) ⊎ Has rows r → r.uprn ≡ uprn → r.born ≤ t → r.born ≤ q.born
        by_place r (inl same) number born = over why
          where
            over : (¬ (p.uprn ≡ uprn)) ⊎ (t < p.born) → r.born ≤ q.born
            over (inl other) = absurd (other (ap (λ (s : PassageRow). s.uprn) (sym same) ∙ number))
            over (inr late) = let e = ap (λ (s : PassageRow). s.born) same in absurd (omega arith)
        by_place r (inr there) number born = last.last r there number born

    its_birth : (r : PassageRow) → r ≡ p → r.born ≤ p.born
    its_birth r same = let e = ap (λ (s : PassageRow). s.born) same in omega arith

    here : p.uprn ≡ uprn → p.born ≤ t → (o : Option PassageRow) → IsLastOf t rows uprn o → Found t uprn (p ∷ rows)
    here number born None none = record {
      row = Some p;
      is = record { there = inl refl; of_number = number; born = born; last = λ r there same early. elim there [ inl is ↦ its_birth r is | inr later ↦ absurd (none r later same early) ] };
    }
    here number born (Some q) last = by_birth (cases_lt p.born q.born)
      where
        by_birth : (p.born < q.born) ⊎ (q.born ≤ p.born) → Found t uprn (p ∷ rows)
        by_birth (inl less) = record {
          row = Some q;
          is = record { there = inr last.there; of_number = last.of_number; born = last.born; last = λ r there same early. elim there [ inl is ↦ (let e = its_birth r is in omega arith) | inr later ↦ last.last r later same early ] };
        }
        by_birth (inr le) = record {
          row = Some p;
          is = record { there = inl refl; of_number = number; born = born; last = λ r there same early. elim there [ inl is ↦ its_birth r is | inr later ↦ (let e = last.last r later same early in omega arith) ] };
        }

    by_number : Found t uprn rows → (b : Bool) → (p.uprn == uprn) ≡ b → (t < p.born) ⊎ (p.born ≤ t) → Found t uprn (p ∷ rows)
    by_number f false is birth = record { row = f.row; is = passed_over (inl (λ same. true≢false (sym (eq_test p.uprn uprn same) ∙ is))) f.row f.is }
      where
        eq_test : (m n : ℕ) → m ≡ n → (m == n) ≡ true
        eq_test m n e = grind (arith, nat_tests)
    by_number f true is (inl late) = record { row = f.row; is = passed_over (inr late) f.row f.is }
    by_number f true is (inr born) = here (eqb-true p.uprn uprn is) born f.row f.is

-- ---- before the first volume, and after one that passes nothing on

pub nothing_passed : (rows : Rows) → ArePassedLater rows → custody_after rows 0 ≡ finite.empty
unfolding custody_after
nothing_passed rows later = ap (λ (ps : Rows). finite.from_entries (map (λ (p : PassageRow). (p.uprn, p.custody)) ps)) (none_pass (lasts_after 0) rows (λ p h. ap (λ b. b && nat_lt 0 p.gone) (le_no p.born 0 (later p h))))

pub no_keys_passed : (rows : Rows) → ArePassedLater rows → passed_keys rows 0 ≡ set.empty
unfolding passed_keys
no_keys_passed rows later = ap (λ (ps : Rows). set.from_list (map (λ (p : PassageRow). key.Blpu p.uprn) ps)) (none_pass (is_passed_by 0) rows (λ p h. le_no p.born 0 (later p h)))

module _ (n : ℕ) (rows : Rows) (room : n + 1 < never) (are : ArePassages n rows) where
  lasts_next : (p : PassageRow) → Has rows p → Lasts n p → Lasts (n + 1) p
  lasts_next p there lasts = by_gone (are.until p there).gone
    where
      by_gone : (p.gone ≤ n) ⊎ (p.gone ≡ never) → Lasts (n + 1) p
      by_gone (inl le) = let u = lasts.gone in absurd (omega arith)
      by_gone (inr current) = let b = lasts.born in record { born = omega arith; gone = omega arith }

  lasted : (p : PassageRow) → Has rows p → Lasts (n + 1) p → Lasts n p
  lasted p there lasts = let b = (are.until p there).born in let u = lasts.gone in record { born = b; gone = omega arith }

  pub custody_next : custody_after rows (n + 1) ≡ custody_after rows n
  unfolding custody_after
  custody_next =
      alike nat_cmp_total nat_cmp-IsAntisymmetric (passings_at (n + 1) rows) (passings_at n rows) (single_at rows (turn_of n rows are) n)
      (λ m x h. let e = passing_of (n + 1) rows m x h in passing_as n rows m x (record { row = e.row; there = e.there; lasts = lasted e.row e.there e.lasts; number = e.number; custody = e.custody }))
      (λ m x h. let e = passing_of n rows m x h in passing_as (n + 1) rows m x (record { row = e.row; there = e.there; lasts = lasts_next e.row e.there e.lasts; number = e.number; custody = e.custody }))

  pub keys_next : passed_keys rows (n + 1) ≡ passed_keys rows n
  unfolding passed_keys
  keys_next =
      alike_set keys_total keys_exact (keys_at (n + 1) rows) (keys_at n rows)
      (λ q h. let u = key_from (n + 1) rows q h in key_as n rows q (record { row = u.row; there = u.there; born = (are.until u.row u.there).born; its_key = u.its_key }))
      (λ q h. let u = key_from n rows q h in key_as (n + 1) rows q (record { row = u.row; there = u.there; born = (let b = u.born in omega arith); its_key = u.its_key }))
