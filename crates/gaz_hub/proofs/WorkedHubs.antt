-- The worked examples on a hub over a register.
use Rattle.std.proofs.Common.{◌≡◌, ◌≤◌, ℕ, refl, sym, ap, ◌∙◌, arith, true≢false}
use Rattle.std.specs.Option.{option_map_or}
use Rattle.std.specs.Prelude.{Some, None}
use Rattle.gaz_steps.specs.Examples.{one_judged, sent}
use Rattle.gaz_steps.specs.Outcomes.{wants}
use Rattle.gaz_hub.specs.WorkedHubs.{WorkedCauses, WorkedDoors, WorkedHubs, WorkedLooks}
use Rattle.gaz_steps.proofs.Examples.{closed_sent, first_ready, get_sent, reads}

on_doors : WorkedDoors
on_doors = record {
  other_profile = λ bytes e. rw e refl;
  known_profile = λ bytes e. rw e refl;
  passing_profile = λ bytes e. rw e refl;
  next_profile = λ bytes e. rw e refl;
  no_profile = λ bytes e. rw e refl;
  first_custodian = refl;
  last_custodian = refl;
  no_custodian = refl;
  no_volume = refl;
  too_large = refl;
  own_block = refl;
  block_of_another = refl;
  begins = refl;
}

on_causes : WorkedCauses
on_causes = record {
  of_new = refl;
  of_taken = refl;
  of_51 = refl;
  of_52 = refl;
  of_the_door = refl;
  of_standing = refl;
  of_settling = refl;
  of_settled = refl;
}

pub wanted_is : wants sent one_judged 1003 ≡ Some (1003, 2)
wanted_is = rw (get_sent (1003, 2)) refl

on_looks : WorkedLooks
on_looks = record {
  second_unreached = refl;
  all_reached = refl;
  waits_for_itself = (closed_sent 1003, wanted_is);
  never_for_the_later = λ h. let e : 2 ≡ 3 = ap (λ o. option_map_or (λ (p : ℕ × ℕ). p.1) o 0) (sym wanted_is ∙ h.1) in cc;
  never_ready = λ h. true≢false (sym h.1.0 ∙ closed_sent 1003);
  never_at_the_end = λ h. let e : Some (1003, 2) ≡ None = sym wanted_is ∙ h.1 in cc;
  is_ready = (refl, (first_ready sent (get_sent (1003, 1)), rw (get_sent (1003, 1), reads 1003 1) refl));
  never_as_another_volume = λ h. let e : 2 ≡ 1 = h.0 in cc;
  never_held = λ h. true≢false (sym (first_ready sent (get_sent (1003, 1))) ∙ h.0);
  missing = (refl, omega arith, get_sent (1003, 2));
  never_past = λ h. let few : 999999 ≤ 1 = h in omega arith;
  wanted = refl;
  none_wanted = refl;
}

pub worked_hubs_hold : WorkedHubs
worked_hubs_hold = record { on_doors = on_doors; on_causes = on_causes; on_looks = on_looks }
