-- What is told of a custodian's numbers, one after another, until there is no more.
use Rattle.std.proofs.Common.{◌≡◌, ◌∙◌, ◌≤◌, ◌<◌, ◌-◌, ◌++◌, ◌==◌, ◌||◌, ◌⊎◌, inl, inr, ℕ, suc, Bool, true, false, cond, nat_le, List, [], ◌∷◌, map, filter, length, slice_get, refl, sym, ap, arith, eqb-true, eq-eqb, true≢false}
use Rattle.std.proofs.lemmas.Bool.{and_from, and_parts, cases_lt}
use Rattle.std.proofs.lemmas.Bool.Decides.{nat_tests}
use Rattle.std.specs.Cmp.{nat_cmp_total}
use Rattle.std.specs.FinMap as finite
use Rattle.std.specs.FinMap.{nat_cmp-IsAntisymmetric}
use Rattle.std.specs.FinSet as set
use Rattle.std.specs.List.{list_any}
use Rattle.std.specs.Ordering.{eq_by_cmp}
use Rattle.std.specs.Prelude.{Option, Some, None}
use Rattle.sqlite_rules.specs.Lists.{Has}
use Rattle.sqlite_rules.proofs.ListLemmas.{has_filtered, has_kept, some_from, some_has}
use Rattle.sqlite_rules.proofs.ProbeLemmas.{has_mapped, mapped_has}
use Rattle.gaz_records.proofs.KeyOrder.{keys_exact, keys_total}
use Rattle.gaz_records.specs.Keys.{key_cmp}
use Rattle.gaz_records.specs.declared.key.Key.{Key}
use Rattle.gaz_records.specs.declared.key.Key.TheVariants as key
use Rattle.gaz_views.specs.View.{View, empty_view}
use Rattle.gaz_views.specs.declared.custody.Custody.{Custody}
use Rattle.gaz_overlay.specs.Passages.{PassageRow, custody_after, has_passed, is_passed_by, passed_keys, with_passages}
use Rattle.gaz_overlay.specs.Rows.{never}
use Rattle.gaz_kept.specs.Kept.{ArePassages}
use Rattle.gaz_kept.specs.Passages.{IsLastOf}
use Rattle.gaz_kept.proofs.PassageRows.{rows_say}
use Rattle.gaz_loaded.specs.Passing.{AreToldInTurn, ComesBehind, IsNext, passage_of}
use Rattle.gaz_loaded.specs.Telling.{last_of}
use Rattle.gaz_loaded.specs.declared.listed.Passage.{Passage}
use Rattle.gaz_loaded.proofs.PutBack.{custody_said, is_said, items_back, put_all, said, used_told, uses}

-- ---- the last that is told

abbrev pub place_after : Option Passage → List Passage → Option Passage
place_after after [] = after
place_after after (x ∷ xs) = place_after (Some x) xs

last_behind : (x y : Passage) (xs : List Passage) → last_of (x ∷ y ∷ xs) ≡ last_of (y ∷ xs)
last_behind x y xs = let e : length (x ∷ y ∷ xs) - 1 ≡ suc (length (y ∷ xs) - 1) = omega arith in ap (slice_get (x ∷ y ∷ xs)) e

place_is : (after : Option Passage) (xs : List Passage) (last : Passage) → last_of xs ≡ Some last → place_after after xs ≡ Some last
place_is after [] last is = let wrong : None ≡ Some last = is in cc
place_is after (x ∷ []) last is = is
place_is after (x ∷ y ∷ xs) last is = place_is (Some x) (y ∷ xs) last (sym (last_behind x y xs) ∙ is)

place_then : (after : Option Passage) (xs ys : List Passage) → place_after after (xs ++ ys) ≡ place_after (place_after after xs) ys
place_then after [] ys = refl
place_then after (x ∷ xs) ys = place_then (Some x) xs ys

pub place_next : (after : Option Passage) (xs ys : List Passage) (last : Passage) → last_of ys ≡ Some last → place_after after (xs ++ ys) ≡ Some last
place_next after xs ys last is = place_then after xs ys ∙ place_is (place_after after xs) ys last is

pub turn_then : (after : Option Passage) (rows : List PassageRow) (xs ys : List Passage) → AreToldInTurn after rows xs → AreToldInTurn (place_after after xs) rows ys → AreToldInTurn after rows (xs ++ ys)
turn_then after rows [] ys turn more = more
turn_then after rows (x ∷ xs) ys turn more = (turn.0, turn_then (Some x) rows xs ys turn.1 more)

-- ---- each row is told

told_from : (after : Option Passage) (rows : List PassageRow) (xs : List Passage) → AreToldInTurn after rows xs → (x : Passage) → Has xs x → (p : PassageRow) × Has rows p × (x ≡ passage_of p)
told_from after rows [] turn x there = absurd there
told_from after rows (y ∷ xs) turn x (inl same) = (turn.0.row, turn.0.there, same ∙ turn.0.is)
told_from after rows (y ∷ xs) turn x (inr later) = told_from (Some y) rows xs turn.1 x later

told_or_behind : (after : Option Passage) (rows : List PassageRow) (xs : List Passage) → AreToldInTurn after rows xs → (p : PassageRow) → Has rows p → ComesBehind after p → Has xs (passage_of p) ⊎ ComesBehind (place_after after xs) p
told_or_behind after rows [] turn p there behind = inr behind
told_or_behind after rows (x ∷ xs) turn p there behind = by_first (told_or_behind (Some x) rows xs turn.1 p there) (turn.0.first p there behind)
  where
    by_rest : Has xs (passage_of p) ⊎ ComesBehind (place_after (Some x) xs) p → Has (x ∷ xs) (passage_of p) ⊎ ComesBehind (place_after (Some x) xs) p
    by_rest (inl here) = inl (inr here)
    by_rest (inr later) = inr later

    by_first : (ComesBehind (Some x) p → Has xs (passage_of p) ⊎ ComesBehind (place_after (Some x) xs) p) → (p ≡ turn.0.row) ⊎ ComesBehind (Some x) p → Has (x ∷ xs) (passage_of p) ⊎ ComesBehind (place_after (Some x) xs) p
    by_first rest (inl same) = inl (inl (ap passage_of same ∙ sym turn.0.is))
    by_first rest (inr later) = by_rest (rest later)

-- ---- the row of a number that was born last, among those that were told

record IsLastTold (after : Option Passage) (t : ℕ) (rows : List PassageRow) (n : ℕ) (p : PassageRow) : Type 0 where
  there : Has rows p
  of_number : p.uprn ≡ n
  born : p.born ≤ t
  last : (r : PassageRow) → Has rows r → r.uprn ≡ n → r.born ≤ t → ComesBehind after r ⊎ (r.born ≤ p.born)

abbrev IsLastAmong : Option Passage → ℕ → List PassageRow → ℕ → Option PassageRow → Type 0
IsLastAmong after t rows n None = (r : PassageRow) → Has rows r → r.uprn ≡ n → r.born ≤ t → ComesBehind after r
IsLastAmong after t rows n (Some p) = IsLastTold after t rows n p

abbrev tell : Option Custody → Option PassageRow → Option Custody
tell base None = base
tell base (Some p) = Some p.custody

record Says (after : Option Passage) (t : ℕ) (rows : List PassageRow) (n : ℕ) (base g : Option Custody) : Type 0 where
  row : Option PassageRow
  is : IsLastAmong after t rows n row
  says : g ≡ tell base row

module _ (t n : ℕ) (rows : List PassageRow) (base : Option Custody) where
  module _ (after : Option Passage) (x : Passage) (next : IsNext after rows x) where
    uprn_is : next.row.uprn ≡ x.uprn
    uprn_is = sym (ap (λ (y : Passage). y.uprn) next.is)

    born_is : next.row.born ≡ x.born
    born_is = sym (ap (λ (y : Passage). y.born) next.is)

    here : is_said t n x ≡ true → IsLastTold (Some x) t rows n next.row
    here is =
        let both = and_parts (nat_le x.born t) (n == x.uprn) is in
        let early : x.born ≤ t = let test = both.0 in grind (arith, nat_tests) in
        let same : n ≡ x.uprn = eqb-true n x.uprn both.1 in
        record {
          there = next.there;
          of_number = uprn_is ∙ sym same;
          born = omega (arith, early, born_is);
          last = λ r there of by. by_birth r of same (cases_lt x.born r.born);
        }
      where
        by_birth : (r : PassageRow) → r.uprn ≡ n → n ≡ x.uprn → (x.born < r.born) ⊎ (r.born ≤ x.born) → ComesBehind (Some x) r ⊎ (r.born ≤ next.row.born)
        by_birth r of same (inl later) = inl (inr (sym same ∙ sym of, later))
        by_birth r of same (inr le) = inr (omega (arith, le, born_is))

    not_here : is_said t n x ≡ false → (r : PassageRow) → r ≡ next.row → r.uprn ≡ n → r.born ≤ t → ⊥
    not_here not r same of by =
        let born : x.born ≤ t = let e = ap (λ (p : PassageRow). p.born) same in omega (arith, by, e, born_is) in
        let early : nat_le x.born t ≡ true = grind (arith, nat_tests) in
        let number : n ≡ x.uprn = sym of ∙ ap (λ (p : PassageRow). p.uprn) same ∙ uprn_is in
        true≢false (sym (and_from (nat_le x.born t) (n == x.uprn) early (eq-eqb n x.uprn number)) ∙ not)

    later : is_said t n x ≡ false → (r : PassageRow) → Has rows r → r.uprn ≡ n → r.born ≤ t → ComesBehind after r → ComesBehind (Some x) r
    later not r there of by behind = by_first (next.first r there behind)
      where
        by_first : (r ≡ next.row) ⊎ ComesBehind (Some x) r → ComesBehind (Some x) r
        by_first (inl same) = absurd (not_here not r same of by)
        by_first (inr so) = so

    still : is_said t n x ≡ false → (o : Option PassageRow) → IsLastAmong after t rows n o → IsLastAmong (Some x) t rows n o
    still not None none = λ r there of by. later not r there of by (none r there of by)
    still not (Some p) is = record {
      there = is.there;
      of_number = is.of_number;
      born = is.born;
      last = λ r there of by. by_last r there of by (is.last r there of by);
    }
      where
        by_last : (r : PassageRow) → Has rows r → r.uprn ≡ n → r.born ≤ t → ComesBehind after r ⊎ (r.born ≤ p.born) → ComesBehind (Some x) r ⊎ (r.born ≤ p.born)
        by_last r there of by (inl behind) = inl (later not r there of by behind)
        by_last r there of by (inr le) = inr le

    next_says : (g : Option Custody) → Says after t rows n base g → Says (Some x) t rows n base (cond (is_said t n x) (Some x.custody) g)
    next_says g was = by_test (is_said t n x) refl
      where
        by_test : (b : Bool) → is_said t n x ≡ b → Says (Some x) t rows n base (cond b (Some x.custody) g)
        by_test true is = record { row = Some next.row; is = here is; says = ap (λ (y : Passage). Some y.custody) next.is }
        by_test false is = record { row = was.row; is = still is was.row was.is; says = was.says }

  all_say : (after : Option Passage) (xs : List Passage) → AreToldInTurn after rows xs → (g : Option Custody) → Says after t rows n base g → Says (place_after after xs) t rows n base (said t n xs g)
  all_say after [] turn g was = was
  all_say after (x ∷ xs) turn g was = all_say (Some x) xs turn.1 (cond (is_said t n x) (Some x.custody) g) (next_says after x turn.0 g was)

-- where none is behind, it is the last of all
last_of_all : (after : Option Passage) (t : ℕ) (rows : List PassageRow) (n : ℕ) (o : Option PassageRow) → ((p : PassageRow) → Has rows p → ¬ ComesBehind after p) → IsLastAmong after t rows n o → IsLastOf t rows n o
last_of_all after t rows n None ends none = λ r there of by. ends r there (none r there of by)
last_of_all after t rows n (Some p) ends is = record {
  there = is.there;
  of_number = is.of_number;
  born = is.born;
  last = λ r there of by. by_last r there (is.last r there of by);
}
  where
    by_last : (r : PassageRow) → Has rows r → ComesBehind after r ⊎ (r.born ≤ p.born) → r.born ≤ p.born
    by_last r there (inl behind) = absurd (ends r there behind)
    by_last r there (inr le) = le

-- ---- all that became of numbers, put back

alike_tests : (a b : Bool) → (a ≡ true → b ≡ true) → (b ≡ true → a ≡ true) → a ≡ b
alike_tests true b to from = sym (to refl)
alike_tests false true to from = from refl
alike_tests false false to from = refl

or_none : (b : Bool) → (b || false) ≡ b
or_none true = refl
or_none false = refl

or_same : (b : Bool) → (b || b) ≡ b
or_same true = refl
or_same false = refl

passed_is : (rows : List PassageRow) (t : ℕ) (q : Key) → has_passed rows t q ≡ list_any (eq_by_cmp key_cmp q) (map (λ p. key.Blpu p.uprn) (filter (is_passed_by t) rows))
unfolding passed_keys
passed_is rows t q = set.contains-from_list keys_total (map (λ p. key.Blpu p.uprn) (filter (is_passed_by t) rows)) q

-- nothing is in it yet, or just these
abbrev pub IsBlankOrWhole : List PassageRow → ℕ → View → Type 0
IsBlankOrWhole rows t v = (v ≡ empty_view) ⊎ (v ≡ with_passages empty_view rows t)

none_used : (q : Key) → set.contains empty_view.used q ≡ false
unfolding empty_view
none_used q = set.contains-empty key_cmp q

nothing_became : (n : ℕ) → finite.get empty_view.custody n ≡ None
unfolding empty_view
nothing_became n = finite.get-empty _ n

module _ (n t : ℕ) (rows : List PassageRow) (xs : List Passage) (short : t < never) (passages : ArePassages n rows) (turn : AreToldInTurn None rows xs) (ends : (p : PassageRow) → Has rows p → ¬ ComesBehind (place_after None xs) p) where
  told : (p : PassageRow) → Has rows p → Has xs (passage_of p)
  told p there = by_told (told_or_behind None rows xs turn p there tt)
    where
      by_told : Has xs (passage_of p) ⊎ ComesBehind (place_after None xs) p → Has xs (passage_of p)
      by_told (inl here) = here
      by_told (inr behind) = absurd (ends p there behind)

  used_alike : (q : Key) → list_any (uses t q) xs ≡ has_passed rows t q
  used_alike q = alike_tests _ _ to from ∙ sym (passed_is rows t q)
    where
      to : list_any (uses t q) xs ≡ true → list_any (eq_by_cmp key_cmp q) (map (λ p. key.Blpu p.uprn) (filter (is_passed_by t) rows)) ≡ true
      to some =
          let x = some_has (uses t q) xs some in
          let p = told_from None rows xs turn x.0 x.1 in
          let both = and_parts (nat_le x.0.born t) (eq_by_cmp key_cmp q (key.Blpu x.0.uprn)) x.2 in
          let early : is_passed_by t p.0 ≡ true = ap (λ (y : Passage). nat_le y.born t) (sym p.2) ∙ both.0 in
          let tie : eq_by_cmp key_cmp q (key.Blpu p.0.uprn) ≡ true = ap (λ (y : Passage). eq_by_cmp key_cmp q (key.Blpu y.uprn)) (sym p.2) ∙ both.1 in
          some_from (eq_by_cmp key_cmp q) (map (λ p. key.Blpu p.uprn) (filter (is_passed_by t) rows)) (key.Blpu p.0.uprn) (mapped_has (λ (p : PassageRow). key.Blpu p.uprn) (filter (is_passed_by t) rows) p.0 (has_kept (is_passed_by t) rows p.0 p.1 early)) tie

      from : list_any (eq_by_cmp key_cmp q) (map (λ p. key.Blpu p.uprn) (filter (is_passed_by t) rows)) ≡ true → list_any (uses t q) xs ≡ true
      from some =
          let k = some_has (eq_by_cmp key_cmp q) (map (λ p. key.Blpu p.uprn) (filter (is_passed_by t) rows)) some in
          let p = has_mapped (λ (p : PassageRow). key.Blpu p.uprn) (filter (is_passed_by t) rows) k.0 k.1 in
          let f = has_filtered (is_passed_by t) rows p.0 p.1 in
          some_from (uses t q) xs (passage_of p.0) (told p.0 f.0) (and_from (nat_le p.0.born t) (eq_by_cmp key_cmp q (key.Blpu p.0.uprn)) f.1 (ap (eq_by_cmp key_cmp q) (sym p.2) ∙ k.2))

  module _ (v : View) where
    items_are : IsBlankOrWhole rows t v → v.items ≡ empty_view.items
    items_are (inl blank) = ap (λ (w : View). w.items) blank
    items_are (inr whole) = ap (λ (w : View). w.items) whole

    used_are : (q : Key) → IsBlankOrWhole rows t v → (has_passed rows t q || set.contains v.used q) ≡ (set.contains empty_view.used q || has_passed rows t q)
    used_are q (inl blank) =
        ap (λ (w : View). has_passed rows t q || set.contains w.used q) blank
        ∙ ap (λ b. has_passed rows t q || b) (none_used q) ∙ or_none (has_passed rows t q)
        ∙ sym (ap (λ b. b || has_passed rows t q) (none_used q))
    used_are q (inr whole) =
        ap (λ (w : View). has_passed rows t q || set.contains w.used q) whole
        ∙ ap (λ b. has_passed rows t q || b) (set.contains-union keys_total empty_view.used (passed_keys rows t) q ∙ ap (λ b. b || has_passed rows t q) (none_used q))
        ∙ or_same (has_passed rows t q)
        ∙ sym (ap (λ b. b || has_passed rows t q) (none_used q))

    custody_is : (k : ℕ) → IsBlankOrWhole rows t v → (o : Option PassageRow) → IsLastOf t rows k o → tell (finite.get v.custody k) o ≡ finite.get (custody_after rows t) k
    custody_is k fresh (Some p) is = sym (rows_say n t k rows (Some p) short passages is).custody
    custody_is k (inl blank) None is = ap (λ (w : View). finite.get w.custody k) blank ∙ nothing_became k ∙ sym (rows_say n t k rows None short passages is).custody
    custody_is k (inr whole) None is = ap (λ (w : View). finite.get w.custody k) whole

    pub all_back : IsBlankOrWhole rows t v → put_all t xs v ≡ with_passages empty_view rows t
    all_back fresh = λ i. record {
      items = (items_back t xs v ∙ items_are fresh) i;
      used = set.same_set keys_total keys_exact (put_all t xs v).used (set.union empty_view.used (passed_keys rows t)) (λ q.
          used_told t q xs v
          ∙ ap (λ b. b || set.contains v.used q) (used_alike q)
          ∙ used_are q fresh
          ∙ sym (set.contains-union keys_total empty_view.used (passed_keys rows t) q)) i;
      custody = finite.same_map nat_cmp_total nat_cmp-IsAntisymmetric (put_all t xs v).custody (custody_after rows t) (λ k.
          let says = all_say t k rows (finite.get v.custody k) None xs turn (finite.get v.custody k) (record { row = None; is = λ r there of by. tt; says = refl }) in
          custody_said t k xs v ∙ says.says ∙ custody_is k fresh says.row (last_of_all (place_after None xs) t rows k says.row ends says.is)) i;
    }
