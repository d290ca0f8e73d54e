-- The worked examples of what becomes of a number.
use Rattle.std.proofs.Common.{◌≡◌, ◌==◌, ℕ, true, false, cond, eqb, refl, sym, ap, ◌∙◌, arith}
use Rattle.std.specs.Prelude.{Option, Some, None, nat_lt}
use Rattle.std.specs.Ordering.{nat_cmp}
use Rattle.std.specs.Cmp.{nat_cmp_total, unsigned_tied}
use Rattle.std.specs.FinMap as map
use Rattle.gaz_chains.specs.Finding.{Next, Nobody, asked}
use Rattle.gaz_extract.specs.Examples.{property}
use Rattle.gaz_keeper.specs.Board.{Board, last_view}
use Rattle.gaz_views.specs.Custody.{hop_of}
use Rattle.gaz_views.specs.View.{custody_at, empty_view, with_adoption, with_release}
use Rattle.gaz_views.specs.declared.custody.Custody.{Custody}
use Rattle.gaz_views.specs.declared.custody.Custody.TheVariants.{Adopted, Released}
use Rattle.gaz_steps.specs.Chains.{holder_from}
use Rattle.gaz_steps.specs.WorkedChains.{WorkedChains, gone_over, offered}
use Rattle.gaz_steps.proofs.Following.{found_here, found_next, found_nobody}
use Rattle.gaz_steps.proofs.ChainFine.{none_at_first}

pub get_set : (m : map.FinMap nat_cmp Custody) (k : ℕ) (e : Custody) (q : ℕ) → map.get (map.insert m k e) q ≡ cond (eqb q k) (Some e) (map.get m q)
get_set m k e q = map.get-insert nat_cmp_total m k e q ∙ ap (λ b. cond b (Some e) (map.get m q)) (unsigned_tied q k)

pub ruleset custodies = (get_set, none_at_first)

-- ---- who is found

was_released : (B : Board) → custody_at (last_view B 1001) 42 ≡ Some (Released 1002 1) → (o : Option Custody) → custody_at (last_view B 1002) 42 ≡ o → cond (nat_lt (hop_of o) 1) Nobody (Next 1002) ≡ asked (λ c. custody_at (last_view B c) 42) true (custody_at (last_view B 1001) 42)
was_released B here o there =
    sym (ap (asked (λ c. custody_at (last_view B c) 42) true) here ∙ ap (λ x. cond (nat_lt (hop_of x) 1) Nobody (Next 1002)) there)

released_here : custody_at (with_release empty_view 42 1002 1) 42 ≡ Some (Released 1002 1)
released_here = get_set empty_view.custody 42 (Released 1002 1) 42

adopted_there : custody_at (with_adoption empty_view (property 42 None) 1001 1) 42 ≡ Some (Adopted 1001 1)
adopted_there = get_set empty_view.custody 42 (Adopted 1001 1) 42

pub while_offered : holder_from offered 42 1001 ≡ None
while_offered = sym (found_nobody (λ c. custody_at (last_view offered c) 42) (λ c. c == 1001) 10000 0 1001 (omega arith) (was_released offered released_here None (none_at_first 42)))

pub once_adopted : holder_from gone_over 42 1001 ≡ Some 1002
once_adopted =
    let shown = λ (c : ℕ). custody_at (last_view gone_over c) 42 in
    sym (found_here shown (λ c. c == 1001) 10000 1 1002 (omega arith) (sym (ap (asked shown false) adopted_there))
    ∙ found_next shown (λ c. c == 1001) 10000 0 1001 1002 (omega arith) (was_released gone_over released_here (Some (Adopted 1001 1)) adopted_there))

pub worked_chains_hold : WorkedChains
worked_chains_hold = record {
  of_a_release = refl;
  of_another_number = refl;
  of_an_adoption = refl;
  of_a_property = refl;
  in_an_applied_file = refl;
  in_a_rejected_file = refl;
  in_a_bad_file = refl;
  in_no_file = refl;
  volume_by_volume = λ files. refl;
  of_another_custodian = λ files. refl;
  nothing_became = simp custodies;
  while_offered = while_offered;
  once_adopted = once_adopted;
}
