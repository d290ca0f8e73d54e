-- The worked examples on what is told of files, and on the sample register.
use Rattle.std.proofs.Common.{◌≡◌, refl}
use Rattle.std.specs.Prelude.{Some}
use Rattle.gaz_steps.specs.Outcomes.{outcome}
use Rattle.gaz_steps.specs.Examples.{one_judged, sent}
use Rattle.gaz_steps.specs.declared.outcome.Outcome.TheVariants.{Held}
use Rattle.gaz_steps.specs.WorkedAnswers.{WorkedAnswers, WorkedOutcomes, WorkedSample}
use Rattle.gaz_steps.proofs.Examples.{entries_sent, get_sent, reads, stands_sent}

pub told_held : outcome sent one_judged 1003 3 ≡ Some (Held 1003 2)
told_held = rw (get_sent (1003, 2)) refl

on_outcomes : WorkedOutcomes
on_outcomes = record {
  of_applied = refl;
  of_rejected = refl;
  judged = refl;
  held = told_held;
  held_no_longer = refl;
  wants_the_missing = rw (get_sent (1003, 2)) refl;
  wants_the_first = rw (get_sent (1002, 1)) refl;
  wants_nothing_when_ready = rw (get_sent (1003, 1), reads 1003 1) refl;
  wants_nothing_after_the_last = λ B e. rw e refl;
  holds_one = rw entries_sent refl;
  held_before = rw entries_sent refl;
  holds_no_others = rw entries_sent refl;
  stands = rw (entries_sent, get_sent (1003, 2)) refl;
}

on_sample : WorkedSample
on_sample = record {
  first_code = refl;
  last_code = refl;
  no_code = refl;
  last_of_block = refl;
  greatest_street = refl;
  of_a_neighbour = refl;
  in_second_block = refl;
  in_third_block = refl;
  without_code = refl;
  not_known = refl;
  none_foreign = refl;
  state = λ i. record { received = sent; board = stands_sent i };
}

pub worked_answers_hold : WorkedAnswers
worked_answers_hold = record { on_outcomes = on_outcomes; on_sample = on_sample }
