-- What judgements come to on worked examples.
use Rattle.std.proofs.Common.{◌≡◌, ◌∙◌, ap, refl}
use Rattle.std.specs.Prelude.{None, codes}
use Rattle.std.specs.FinMap as map
use Rattle.gaz_ids.specs.declared.lang.Lang.TheVariants.{Eng}
use Rattle.gaz_ids.specs.declared.status.Status.TheVariants.{Approved}
use Rattle.gaz_records.specs.Keys.{key_cmp}
use Rattle.gaz_records.specs.declared.item.Item.{Item}
use Rattle.gaz_records.specs.declared.item.Item.TheVariants as item
use Rattle.gaz_records.specs.declared.key.Key.TheVariants as key
use Rattle.gaz_views.specs.CustodyExamples.{alone as property_500}
use Rattle.gaz_views.specs.View.{empty_view}
use Rattle.gaz_views.proofs.Emptiness.{get_none}
use Rattle.gaz_views.proofs.Examples.{get_one}
use Rattle.gaz_views.specs.Examples.{blpu, name, one_street, street}
use Rattle.gaz_rules.specs.Judging.{judge}
use Rattle.gaz_rules.specs.JudgedExamples.{part, WorkedBoards, WorkedEndFaults, WorkedExamples, WorkedFiles, WorkedForeign, WorkedGivingUp, WorkedRecordFaults, WorkedReleasedBoards, WorkedTaking}
use Rattle.gaz_end_rules.specs.EndExamples.{address, l1}
use Rattle.gaz_end_rules.proofs.Worked.{taken-put, taken-under, views}
use Rattle.gaz_rules.proofs.CustodyExamples.{on_passing}
use Rattle.gaz_rules.proofs.Examples.{on_kinds, on_record_rules, on_texts}
use Rattle.gaz_end_rules.proofs.EndExamples.{on_end_rules}

on_files : WorkedFiles
unfolding judge
on_files = record {
  bad = refl;
  empty = refl;
  inserted = simp views;
  updated = simp views;
  deleted = rw (taken-put one_street.items (key.Descriptor 101 Eng) (name 101 Eng) (get_one (key.Descriptor 101 Eng))) (simp views);
}

on_record_faults : WorkedRecordFaults
unfolding judge
on_record_faults = record {
  at_second = simp views;
  at_first = simp views;
  taken_and_back = rw (taken-put one_street.items (key.Descriptor 101 Eng) (name 101 Eng) (get_one (key.Descriptor 101 Eng))) (simp views);
  taken_and_changed = rw (taken-put one_street.items (key.Descriptor 101 Eng) (name 101 Eng) (get_one (key.Descriptor 101 Eng))) (simp views);
}

on_end_faults : WorkedEndFaults
unfolding judge
on_end_faults = record {
  at_second = simp views;
  mended_later = simp views;
  least_rule = simp views;
  least_record = simp views;
  records_first = simp views;
  key_not_cause = simp views;
  replaced = simp views;
  untouched_address = simp views;
}

-- what stands in the view of a home but its property and its address
abbrev streets_of_home : map.FinMap key_cmp Item
streets_of_home = map.insert (map.insert empty_view.items (key.Street 101) (street 101)) (key.Descriptor 101 Eng) (name 101 Eng)

abbrev home_alone : map.FinMap key_cmp Item
home_alone = map.insert streets_of_home (key.Blpu 1001) (blpu 1001 None)

abbrev l1_address : Item
l1_address = address (codes "L1") Approved

-- the property taken, and the address
without_home : map.remove home_alone (key.Blpu 1001) ≡ streets_of_home
without_home = taken-put streets_of_home (key.Blpu 1001) (blpu 1001 None) (simp views)

without_address : map.remove (map.insert home_alone l1 l1_address) l1 ≡ home_alone
without_address = taken-put home_alone l1 l1_address (simp views)

under_address : map.remove (map.insert home_alone l1 l1_address) (key.Blpu 1001) ≡ map.insert streets_of_home l1 l1_address
under_address = taken-under home_alone l1 l1_address (key.Blpu 1001) refl ∙ ap (λ m. map.insert m l1 l1_address) without_home

address_alone : map.remove (map.insert streets_of_home l1 l1_address) l1 ≡ streets_of_home
address_alone = taken-put streets_of_home l1 l1_address (simp views)

-- a property that stands alone, one with a part, and one that was adopted
alone_taken : map.remove (map.insert empty_view.items (key.Blpu 1001) (blpu 1001 None)) (key.Blpu 1001) ≡ empty_view.items
alone_taken = taken-put empty_view.items (key.Blpu 1001) (blpu 1001 None) (get_none (key.Blpu 1001))

under_part : map.remove (map.insert (map.insert empty_view.items (key.Blpu 1001) (blpu 1001 None)) (key.Blpu 1002) part) (key.Blpu 1001) ≡ map.insert empty_view.items (key.Blpu 1002) part
under_part =
    taken-under (map.insert empty_view.items (key.Blpu 1001) (blpu 1001 None)) (key.Blpu 1002) part (key.Blpu 1001) refl
    ∙ ap (λ m. map.insert m (key.Blpu 1002) part) alone_taken

adopted_taken : map.remove (map.insert empty_view.items (key.Blpu 500) (item.Blpu property_500)) (key.Blpu 500) ≡ empty_view.items
adopted_taken = taken-put empty_view.items (key.Blpu 500) (item.Blpu property_500) (get_none (key.Blpu 500))

on_giving_up : WorkedGivingUp
unfolding judge
on_giving_up = record {
  alone = rw alone_taken (simp views);
  with_its_address = rw under_address (simp views);
  after_its_address = rw (without_address, without_home) (simp views);
  before_its_address = rw (under_address, address_alone) (simp views);
  with_a_part = rw under_part (simp views);
  twice = simp views;
  and_changed = simp views;
}

on_taking : WorkedTaking
unfolding judge
on_taking = record {
  alone = simp views;
  twice = simp views;
  and_given_back = rw adopted_taken (simp views);
  and_changed = simp views;
}

on_released_boards : WorkedReleasedBoards
unfolding judge
on_released_boards = record {
  at_volume = simp views;
  at_later_volume = simp views;
}

on_foreign : WorkedForeign
unfolding judge
on_foreign = record {
  no_basis = simp views;
  open_at_it = simp views;
  closed_at_it = simp views;
  unnamed_at_it = simp views;
}

on_boards : WorkedBoards
unfolding judge
on_boards = record {
  reached = refl;
  not_reached = refl;
  open_at_volume = simp views;
  closed_at_volume = simp views;
}

pub worked_examples_hold : WorkedExamples
worked_examples_hold = record {
  on_record_rules = on_record_rules;
  on_kinds = on_kinds;
  on_texts = on_texts;
  on_passing = on_passing;
  on_end_rules = on_end_rules;
  on_files = on_files;
  on_record_faults = on_record_faults;
  on_end_faults = on_end_faults;
  on_giving_up = on_giving_up;
  on_taking = on_taking;
  on_foreign = on_foreign;
  on_boards = on_boards;
  on_released_boards = on_released_boards;
}
