-- The worked examples on readings.
use Rattle.std.proofs.Common.{◌≡◌, refl, sym, ◌∙◌, [], ◌∷◌, true≢false}
use Rattle.std.specs.Prelude.{Some, None}
use Rattle.std.specs.FinMap as map
use Rattle.gaz_extract.specs.Closing.{closed_streets}
use Rattle.gaz_extract.specs.Extracts.{extract}
use Rattle.gaz_extract.specs.Lookups.{lookup}
use Rattle.gaz_records.specs.Keys.{key_cmp}
use Rattle.gaz_records.specs.declared.key.Key.{Key}
use Rattle.gaz_records.specs.declared.key.Key.TheVariants as key
use Rattle.gaz_end_rules.proofs.Worked.{entries-none}
use Rattle.gaz_keeper.specs.Board.{empty_board}
use Rattle.gaz_views.specs.View.{empty_view}
use Rattle.gaz_steps.specs.Examples.{one_judged, sent}
use Rattle.gaz_steps.specs.Sample.{sample_custodians, sample_register}
use Rattle.gaz_steps.specs.WorkedReadings.{WorkedReadings, of_nothing}
use Rattle.gaz_steps.proofs.Examples.{first_ready, get_sent}
use Rattle.gaz_steps.proofs.Leading.{follows_itself}
use Rattle.gaz_steps.proofs.WorkedSteps.{gap_settled, late_settled}

pub none_at : (k : Key) → map.get empty_view.items k ≡ None
unfolding empty_view
none_at k = map.get-empty key_cmp k

nothing_found : None ≡ lookup one_judged sample_custodians 42
nothing_found = rw (none_at (key.Blpu 42)) refl

text_is : Some of_nothing ≡ extract one_judged 1003 1
text_is = rw entries-none refl

none_closed : [] ≡ closed_streets one_judged sample_custodians
none_closed = rw entries-none refl

pub worked_readings_hold : WorkedReadings
worked_readings_hold = record {
  not_found = (refl, record { let_in = refl; received = refl; settled = gap_settled; answer = nothing_found });
  never_found = λ found s. let no : Some found ≡ None = s.1.answer ∙ sym nothing_found in cc;
  look_up_faults = (refl, record { let_in = refl; received = refl; board = follows_itself sample_register sent empty_board empty_board refl });
  never_refused_at_the_door = λ s. let no = s.1.refused in cc;
  extracted = (refl, record { let_in = refl; received = refl; settled = gap_settled; answer = text_is });
  settled_first = (refl, record { let_in = refl; received = refl; settled = late_settled; answer = text_is });
  never_from_before = λ s. let no : None ≡ Some of_nothing = s.1.answer ∙ sym text_is in cc;
  never_unsettled = λ s. true≢false (sym (first_ready sent (get_sent (1003, 1))) ∙ s.1.settled.settled 1003);
  not_reached = (refl, record { let_in = refl; received = refl; settled = gap_settled; answer = refl });
  never_the_last_view = λ text s. let no : Some text ≡ None = s.1.answer in cc;
  unknown_first = (refl, record { refused = refl; same = refl });
  no_volume = (refl, record { refused = refl; same = refl });
  never_received = λ s. s.1;
  listed = (refl, record { let_in = refl; received = refl; settled = gap_settled; answer = none_closed });
  never_listed = λ closed s. let no : closed ∷ [] ≡ [] = s.1.answer ∙ sym none_closed in cc;
  never_answered_otherwise = λ s. let no = s.0 in cc;
  looking_let_in = refl;
  listing_let_in = refl;
  cause_of_a_reading = refl;
  no_cause = refl;
  told_settles = refl;
  fault_settles_not = refl;
  done_told = refl;
  nothing_told = refl;
  refusal_told = refl;
  extract_told = refl;
  list_told = refl;
  not_there_told = refl;
  settling_told = refl;
  door_told = refl;
  never_told_otherwise = λ e. let no = e in cc;
}
