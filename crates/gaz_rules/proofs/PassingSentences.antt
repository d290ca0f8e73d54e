-- That the tests of releases and adoptions say what the sentences say.
use Rattle.std.proofs.Common.{◌≡◌, ◌≢◌, ◌≤◌, ◌+◌, ℕ, Bool, true, false, cond, nat_eq, not, List, [], ◌∷◌, ◌++◌, refl, sym, ap, ◌∙◌, true≢false, arith, eqb-true, eq-eqb}
use Rattle.std.specs.Prelude.{◌==◌, nat_lt, Some}
use Rattle.std.specs.Option.{option_and_then, option_map}
use Rattle.std.specs.List.{All, find}
use Rattle.std.proofs.lemmas.Bool.Decides.{nat_tests}
use Rattle.std.proofs.lemmas.List.Elements.{All-cons, All-nil}
use Rattle.gaz_records.specs.declared.item.Item.{Item}
use Rattle.gaz_records.specs.declared.item.Item.TheVariants as item
use Rattle.gaz_views.specs.View.{View, custody_at, hop_at}
use Rattle.gaz_views.specs.declared.custody.Custody.{Custody}
use Rattle.gaz_views.specs.declared.custody.Custody.TheVariants.{Adopted, Released}
use Rattle.gaz_rules.specs.CustodyRules.{basis_of, is_released_to, is_stale, is_unreleased, is_wrong_hop, was_released}
use Rattle.gaz_rules.specs.RecordSentences.{AdoptsLate, AdoptsUnreleased, IsBasisOf, ReleasesOutOfTurn}
use Rattle.gaz_end_rules.proofs.Elements.{all_first, all_rest}
use Rattle.gaz_end_rules.proofs.Booleans.{and_then_gives, both_parts, false_by, joined, no_false, not_true, passes_some, some_passes}

pub numbers_differ : (x y : ℕ) → not (nat_eq x y) ≡ true → x ≢ y
numbers_differ x y h e = no_false (nat_eq x y) (eq-eqb x y e) (not_true _ h)

pub differing_numbers : (x y : ℕ) → x ≢ y → not (nat_eq x y) ≡ true
differing_numbers x y apart = ap not (false_by (nat_eq x y) (λ t. apart (eqb-true x y t)))

-- ---- 40

pub out_of_turn_told : (v : View) (i : Item) → is_wrong_hop v i ≡ true → ReleasesOutOfTurn v i
out_of_turn_told v (item.Release r) h = record { release = r; is = refl; wrong = numbers_differ r.hop (hop_at v r.uprn + 1) h }
out_of_turn_told v (item.Street s) h = absurd (true≢false (sym h))
out_of_turn_told v (item.Descriptor s) h = absurd (true≢false (sym h))
out_of_turn_told v (item.Blpu s) h = absurd (true≢false (sym h))
out_of_turn_told v (item.Xref s) h = absurd (true≢false (sym h))
out_of_turn_told v (item.Lpi s) h = absurd (true≢false (sym h))
out_of_turn_told v (item.Adopt s) h = absurd (true≢false (sym h))

pub out_of_turn_from : (v : View) (i : Item) → ReleasesOutOfTurn v i → is_wrong_hop v i ≡ true
out_of_turn_from v i s = ap (is_wrong_hop v) s.is ∙ differing_numbers s.release.hop (hop_at v s.release.uprn + 1) s.wrong

-- ---- 41, the view on which the first basis line of a custodian rests

abbrev is_by : ℕ → ℕ × View → Bool
is_by from b = b.0 == from

abbrev is_anothers : ℕ → ℕ × View → Type 0
is_anothers from b = b.0 ≢ from

basis_told : (out : List (ℕ × View)) (from : ℕ) (w : View) → basis_of out from ≡ Some w → IsBasisOf out from w
basis_told [] from w e = cc
basis_told (b ∷ bs) from w e =
    elim (is_by from b) as (λ t. is_by from b ≡ t → option_map (λ (x : ℕ × View). x.1) (cond t (Some b) (find (is_by from) bs)) ≡ Some w → IsBasisOf (b ∷ bs) from w) [
      | true ↦ λ is same.
          let view : b.1 ≡ w = cc in
          let by : b.0 ≡ from = eqb-true b.0 from is in
          record { before = []; after = bs; in_turn = λ j. (by j, view j) ∷ bs; none_before = All-nil (is_anothers from) }
      | false ↦ λ is later.
          let rest = basis_told bs from w later in
          record {
            before = b ∷ rest.before;
            after = rest.after;
            in_turn = ap (λ l. b ∷ l) rest.in_turn;
            none_before = All-cons (is_anothers from) b rest.before (λ by. no_false (is_by from b) (eq-eqb b.0 from by) is) rest.none_before;
          }
    ] refl e

basis_past : (before after : List (ℕ × View)) (from : ℕ) (w : View) → All (is_anothers from) before → basis_of (before ++ (from, w) ∷ after) from ≡ Some w
basis_past [] after from w none = ap (λ t. option_map (λ (x : ℕ × View). x.1) (cond t (Some (from, w)) (find (is_by from) after))) (eq-eqb from from refl)
basis_past (b ∷ bs) after from w none =
    ap (λ t. option_map (λ (x : ℕ × View). x.1) (cond t (Some b) (find (is_by from) (bs ++ (from, w) ∷ after)))) (false_by (is_by from b) (λ t. all_first (is_anothers from) b bs none (eqb-true b.0 from t)))
    ∙ basis_past bs after from w (all_rest (is_anothers from) b bs none)

basis_from : (out : List (ℕ × View)) (from : ℕ) (w : View) → IsBasisOf out from w → basis_of out from ≡ Some w
basis_from out from w is = ap (λ l. basis_of l from) is.in_turn ∙ basis_past is.before is.after from w is.none_before

pub released_told : (c hop : ℕ) (x : Custody) → is_released_to c hop x ≡ true → x ≡ Released c hop
released_told c hop (Released to h) e =
    let parts = both_parts (to == c) (h == hop) e in
    let who = eqb-true to c parts.0 in
    let when = eqb-true h hop parts.1 in
    λ j. Released (who j) (when j)
released_told c hop (Adopted from h) e = absurd (true≢false (sym e))

released_itself : (c hop : ℕ) → is_released_to c hop (Released c hop) ≡ true
released_itself c hop = joined _ _ (eq-eqb c c refl) (eq-eqb hop hop refl)

was_released_from : (c : ℕ) (out : List (ℕ × View)) (uprn from hop : ℕ) (w : View) → IsBasisOf out from w → custody_at w uprn ≡ Some (Released c hop) → was_released c out uprn from hop ≡ true
was_released_from c out uprn from hop w first at =
    passes_some (option_and_then (λ u. custody_at u uprn) (basis_of out from)) (is_released_to c hop) (Released c hop)
    (ap (option_and_then (λ u. custody_at u uprn)) (basis_from out from w first) ∙ at) (released_itself c hop)

pub unreleased_told : (c : ℕ) (out : List (ℕ × View)) (i : Item) → is_unreleased c out i ≡ true → AdoptsUnreleased c out i
unreleased_told c out (item.Adopt a) h = record {
  adoption = a;
  is = refl;
  unreleased = λ w first at. no_false _ (was_released_from c out a.blpu.uprn a.from a.hop w first at) (not_true _ h);
}
unreleased_told c out (item.Street s) h = absurd (true≢false (sym h))
unreleased_told c out (item.Descriptor s) h = absurd (true≢false (sym h))
unreleased_told c out (item.Blpu s) h = absurd (true≢false (sym h))
unreleased_told c out (item.Xref s) h = absurd (true≢false (sym h))
unreleased_told c out (item.Lpi s) h = absurd (true≢false (sym h))
unreleased_told c out (item.Release s) h = absurd (true≢false (sym h))

pub unreleased_from : (c : ℕ) (out : List (ℕ × View)) (i : Item) → AdoptsUnreleased c out i → is_unreleased c out i ≡ true
unreleased_from c out i s =
    let a = s.adoption in
    ap (is_unreleased c out) s.is
    ∙ ap not (false_by (was_released c out a.blpu.uprn a.from a.hop) (λ t.
    let x = some_passes (option_and_then (λ u. custody_at u a.blpu.uprn) (basis_of out a.from)) (is_released_to c a.hop) t in
    let w = and_then_gives (λ u. custody_at u a.blpu.uprn) (basis_of out a.from) x.0 x.1 in
    s.unreleased w.0 (basis_told out a.from w.0 w.1) (w.2 ∙ ap Some (released_told c a.hop x.0 x.2))))

-- ---- 42

not_less : (a b : ℕ) → not (nat_lt a b) ≡ true → b ≤ a
not_less a b h = grind (arith, nat_tests)

at_most : (a b : ℕ) → b ≤ a → not (nat_lt a b) ≡ true
at_most a b h = grind (arith, nat_tests)

pub late_told : (v : View) (i : Item) → is_stale v i ≡ true → AdoptsLate v i
late_told v (item.Adopt a) h = record { adoption = a; is = refl; late = not_less (hop_at v a.blpu.uprn) a.hop h }
late_told v (item.Street s) h = absurd (true≢false (sym h))
late_told v (item.Descriptor s) h = absurd (true≢false (sym h))
late_told v (item.Blpu s) h = absurd (true≢false (sym h))
late_told v (item.Xref s) h = absurd (true≢false (sym h))
late_told v (item.Lpi s) h = absurd (true≢false (sym h))
late_told v (item.Release s) h = absurd (true≢false (sym h))

pub late_from : (v : View) (i : Item) → AdoptsLate v i → is_stale v i ≡ true
late_from v i s = ap (is_stale v) s.is ∙ at_most (hop_at v s.adoption.blpu.uprn) s.adoption.hop s.late
