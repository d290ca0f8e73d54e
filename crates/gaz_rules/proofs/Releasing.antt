-- Where a release is looked for, and what an adoption breaks.
use Rattle.std.proofs.Common.{◌≡◌, ◌≤◌, ◌∙◌, ℕ, Bool, true, false, cond, not, List, [], ◌∷◌, refl, ap, subst, arith}
use Rattle.std.specs.Prelude.{◌==◌, nat_le, nat_lt, Option, None, Some}
use Rattle.std.specs.Option.{option_and_then, option_map, option_map_or}
use Rattle.std.specs.List.{find}
use Rattle.std.specs.FinMap as fin
use Rattle.std.proofs.lemmas.Bool.Decides.{nat_tests}
use Rattle.gaz_changefile.specs.declared.action.Action.{Action}
use Rattle.gaz_changefile.specs.declared.change.Basis.{Basis}
use Rattle.gaz_records.specs.declared.adopt.Adopt.{Adopt}
use Rattle.gaz_records.specs.declared.item.Item.{Item}
use Rattle.gaz_records.specs.declared.item.Item.TheVariants as item
use Rattle.gaz_records.specs.declared.key.Key.TheVariants as key
use Rattle.gaz_register.specs.Registers.{Blocks}
use Rattle.gaz_views.specs.Custody.{hop_of}
use Rattle.gaz_views.specs.View.{View, custody_at}
use Rattle.gaz_keeper.specs.Board.{Board, reached, view_after}
use Rattle.gaz_end_rules.specs.Bases.{are_reached, basis_views}
use Rattle.gaz_rules.specs.CustodyRules.{is_released_to, was_released}
use Rattle.gaz_changefile.specs.Rules.{first_broken}
use Rattle.gaz_rules.specs.Rules.{is_delete, is_moved, is_update, moves_what_stays, record_rules, takes_what_stays}
use Rattle.gaz_end_rules.proofs.Booleans.{and_false, both_parts}

-- ---- the basis line of a custodian

abbrev is_of : ℕ → Basis → Bool
is_of from d = d.custodian == from

abbrev viewed : Board → Basis → ℕ × View
viewed board d = (d.custodian, view_after board d.custodian d.volume)

in_views : (board : Board) (from : ℕ) (bases : List Basis) → find (λ (b : ℕ × View). b.0 == from) (basis_views board bases) ≡ option_map (viewed board) (find (is_of from) bases)
in_views board from [] = refl
in_views board from (d ∷ bases) =
    elim (is_of from d) as (λ b. cond b (Some (viewed board d)) (find (λ (e : ℕ × View). e.0 == from) (basis_views board bases)) ≡ option_map (viewed board) (cond b (Some d) (find (is_of from) bases))) [
      | true ↦ refl
      | false ↦ in_views board from bases
    ]

abbrev told_by : ℕ → ℕ → ℕ → Option (ℕ × View) → Bool
told_by c uprn hop found = option_map_or (is_released_to c hop) (option_and_then (λ w. custody_at w uprn) (option_map (λ (b : ℕ × View). b.1) found)) false

pub none_released : (board : Board) (c uprn from hop : ℕ) (bases : List Basis) → find (is_of from) bases ≡ None → was_released c (basis_views board bases) uprn from hop ≡ false
none_released board c uprn from hop bases e =
    ap (told_by c uprn hop) (in_views board from bases ∙ ap (option_map (viewed board)) e)

pub found_released : (board : Board) (c uprn from hop : ℕ) (bases : List Basis) (d : Basis) → find (is_of from) bases ≡ Some d
    → was_released c (basis_views board bases) uprn from hop ≡ option_map_or (is_released_to c hop) (custody_at (view_after board d.custodian d.volume) uprn) false
found_released board c uprn from hop bases d e =
    ap (told_by c uprn hop) (in_views board from bases ∙ ap (option_map (viewed board)) e)

below : (a b : ℕ) → nat_le a b ≡ true → a ≤ b
below a b e = grind (arith, nat_tests)

pub found_reached : (board : Board) (from : ℕ) (bases : List Basis) (d : Basis) → find (is_of from) bases ≡ Some d → are_reached board bases ≡ true → d.volume ≤ reached board d.custodian
found_reached board from [] d e all = cc
found_reached board from (b ∷ bases) d e all =
    let parts = both_parts (nat_le b.volume (reached board b.custodian)) (are_reached board bases) all in
    elim (is_of from b) as (λ t. cond t (Some b) (find (is_of from) bases) ≡ Some d → d.volume ≤ reached board d.custodian) [
      | true ↦ λ same. let is : b ≡ d = cc in subst (λ (x : Basis). x.volume ≤ reached board x.custodian) is (below _ _ parts.0)
      | false ↦ λ rest. found_reached board from bases d rest parts.1
    ] e

-- ---- the rules of an adoption

not_moved : (old : Item) (x : Adopt) → is_moved old (item.Adopt x) ≡ false
not_moved (item.Street s) x = refl
not_moved (item.Descriptor s) x = refl
not_moved (item.Blpu s) x = refl
not_moved (item.Xref s) x = refl
not_moved (item.Lpi s) x = refl
not_moved (item.Release s) x = refl
not_moved (item.Adopt s) x = refl

none_moved : (o : Option Item) (x : Adopt) → option_map_or (λ old. is_moved old (item.Adopt x)) o false ≡ false
none_moved None x = refl
none_moved (Some old) x = not_moved old x

by_both : (w l : Bool) → first_broken ((41, not w) ∷ (42, not l) ∷ []) ≡ cond w (cond l None (Some 42)) (Some 41)
by_both true true = refl
by_both true false = refl
by_both false true = refl
by_both false false = refl

pub adopt_rules : (c : ℕ) (own : Blocks) (others : List (ℕ × View)) (v : View) (a : Action) (x : Adopt)
    → first_broken (record_rules c own others v a (item.Adopt x))
    ≡ cond (was_released c others x.blpu.uprn x.from x.hop) (cond (nat_lt (hop_of (custody_at v x.blpu.uprn)) x.hop) None (Some 42)) (Some 41)
adopt_rules c own others v a x =
    let released = was_released c others x.blpu.uprn x.from x.hop in
    let later = nat_lt (hop_of (custody_at v x.blpu.uprn)) x.hop in
    let taken : takes_what_stays a (item.Adopt x) ≡ false = and_false (is_delete a) false refl in
    let moved : moves_what_stays v a (item.Adopt x) ≡ false = and_false (is_update a) _ (none_moved (fin.get v.items (key.Blpu x.blpu.uprn)) x) in
    ap (λ t. first_broken ((23, t) ∷ (24, moves_what_stays v a (item.Adopt x)) ∷ (41, not released) ∷ (42, not later) ∷ [])) taken
    ∙ ap (λ t. first_broken ((24, t) ∷ (41, not released) ∷ (42, not later) ∷ [])) moved
    ∙ by_both released later
