-- What the end rules come to on worked examples.
use Rattle.std.proofs.Common.{◌≡◌, ◌∙◌, ◌||◌, false, true, [], ap, subst, sym}
use Rattle.std.specs.Prelude.{None, Some}
use Rattle.gaz_end_rules.specs.EndExamples.{home}
use Rattle.gaz_end_rules.specs.EndRules.{same_key}
use Rattle.gaz_end_rules.proofs.Booleans.{by_test}
use Rattle.gaz_end_rules.proofs.Keys.{key_itself, key_tied}
use Rattle.gaz_end_rules.specs.EndExamples.{WorkedBases, WorkedEndRules, WorkedLacking, WorkedLeaving, WorkedNames, WorkedPassed, WorkedPast, WorkedRings, WorkedSecond, WorkedStreets, l1, rests, two_approved}
use Rattle.gaz_end_rules.proofs.Worked.{views}

on_second : WorkedSecond
on_second = record {
  alone = simp views;
  of_the_first = simp views;
  of_the_second = simp views;
  beside_another_name = simp views;
  as_another_name = simp views;
  of_another_property = simp views;
}

on_lacking : WorkedLacking
on_lacking = record {
  reference = simp views;
  reference_to_it = simp views;
  address_of_none = simp views;
  gone = simp views;
  part = simp views;
  part_of_it = simp views;
}

on_leaving : WorkedLeaving
on_leaving = record {
  nothing = simp views;
  under_a_reference = simp views;
  under_a_past_address = simp views;
  under_a_part = simp views;
  under_both = simp views;
  under_none = simp views;
  there = simp views;
}

on_rings : WorkedRings
on_rings = record {
  on_it = simp views;
  on_it_too = simp views;
  leads_to_it = simp views;
  of_one = simp views;
  chain = simp views;
}

on_streets : WorkedStreets
on_streets = record {
  nowhere = simp views;
  nowhere_yet = simp views;
  closed = simp views;
  closed_over_another_name = simp views;
  street_under_it = simp views;
  open_street = simp views;
  street_under_another_name = simp views;
}

on_names : WorkedNames
on_names = record {
  unnamed = simp views;
  in_welsh_alone = simp views;
  taken = simp views;
  welsh_taken = simp views;
  taken_under_another_name = simp views;
  taken_of_no_street = simp views;
  of_no_street = simp views;
  of_its_street = simp views;
}

on_past : WorkedPast
on_past = record {
  address_of_past = simp views;
  past_with_address = simp views;
  other_name_of_past = simp views;
  past_with_other_name = simp views;
}

on_bases : WorkedBases
on_bases = record {
  no_basis = simp views;
  not_there = simp views;
  open_at_it = simp views;
  closed_at_it = simp views;
  unnamed_there = simp views;
  named_elsewhere = simp views;
  own_view_first = simp views;
  first_basis_first = simp views;
  other_way_round = simp views;
}

on_passed : WorkedPassed
on_passed = record {
  none_yet = λ k has. absurd (let clash : false ≡ true = has in cc);
  address = λ k has. by_test (same_key k l1)
      (λ same. subst (λ x. rests home [] x ≡ None) (sym (key_tied k l1 same)) on_second.alone)
      (λ other. absurd (let clash : false ≡ true = sym (ap (λ b. b || false) other) ∙ has in cc));
  broken = λ passed.
      let none : rests two_approved [] l1 ≡ None = passed l1 (ap (λ b. b || false) (key_itself l1)) in
      let clash : None ≡ Some 30 = sym none ∙ on_second.of_the_first in
      absurd (cc);
}

pub on_end_rules : WorkedEndRules
on_end_rules = record {
  on_second = on_second;
  on_lacking = on_lacking;
  on_leaving = on_leaving;
  on_rings = on_rings;
  on_streets = on_streets;
  on_names = on_names;
  on_past = on_past;
  on_bases = on_bases;
  on_passed = on_passed;
}
