-- What the record rules come to on worked examples.
use Rattle.std.proofs.Common.{refl}
use Rattle.gaz_rules.specs.Examples.{WorkedKinds, WorkedRecordRules, WorkedTexts}
use Rattle.gaz_end_rules.proofs.Worked.{views}

pub on_record_rules : WorkedRecordRules
on_record_rules = record {
  below = refl;
  first = simp views;
  last = simp views;
  above = refl;
  second_block = simp views;
  used_again = simp views;
  used_and_taken = simp views;
  never_used = simp views;
  updates_nothing = simp views;
  updates_what_was_taken = simp views;
  updates = simp views;
  deletes_nothing = simp views;
  streets_stay = simp views;
  updates_outside = refl;
  deletes_outside = refl;
}

pub on_kinds : WorkedKinds
on_kinds = record {
  below = simp views;
  first = simp views;
  of_any_street = refl;
  of_any_property = refl;
  blpus_stay = refl;
  descriptors_go = refl;
  addresses_go = refl;
}

pub on_texts : WorkedTexts
on_texts = record {
  of_another_property = simp views;
  in_another_language = simp views;
  another_name = simp views;
  on_another_street = simp views;
  taken_as_another = simp views;
  reference_to_another = simp views;
  reference_to_the_same = simp views;
  same_text_of_another_kind = simp views;
}
