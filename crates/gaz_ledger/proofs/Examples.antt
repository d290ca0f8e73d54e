-- What the definitions come to on worked examples.
use Rattle.std.proofs.Common.{◌≤◌, arith, refl}
use Rattle.std.specs.FinMap as map
use Rattle.std.specs.FinSet as set
use Rattle.gaz_records.proofs.KeyOrder.{keys_total}
use Rattle.gaz_records.specs.Keys.{key_of}
use Rattle.gaz_records.specs.declared.key.Key.TheVariants as key
use Rattle.gaz_views.specs.Examples.{street}
use Rattle.gaz_views.specs.View.{empty_view, with_item}
use Rattle.gaz_ledger.specs.Examples.{WorkedExamples, WorkedLives, WorkedProperties}

properties_hold : WorkedProperties
properties_hold = record {
  its_address = refl;
  not_its_part = refl;
  of_no_mark = refl;
  its_blpu = refl;
  another_blpu = refl;
  a_street = refl;
}

lives_hold : WorkedLives
lives_hold = record {
  not_born = refl;
  born = map.get-insert keys_total empty_view.items (key_of (street 101)) (street 101) (key.Street 101);
  lives = map.get-insert keys_total empty_view.items (key_of (street 101)) (street 101) (key.Street 101);
  gone = map.get-remove keys_total (with_item empty_view (street 101)).items (key_of (street 101)) (key.Street 101);
  used_once_gone = set.contains-insert keys_total empty_view.used (key_of (street 101)) (key.Street 101);
  never_gone = map.get-insert keys_total empty_view.items (key_of (street 101)) (street 101) (key.Street 101);
  comes_and_goes = map.get-remove keys_total (with_item empty_view (street 101)).items (key_of (street 101)) (key.Street 101);
  within = record { first = omega arith; begun = omega arith; ended = (omega arith, omega arith) };
  ends_too_late = λ life. let late : 4 ≤ 3 = life.ended.1 in omega arith;
  ends_too_early = λ life. let early : 2 ≤ 1 = life.ended.0 in omega arith;
  begins_too_late = λ life. let late : 2 ≤ 1 = life.begun in omega arith;
}

pub worked_examples_hold : WorkedExamples
worked_examples_hold = record { on_properties = properties_hold; on_lives = lives_hold }
