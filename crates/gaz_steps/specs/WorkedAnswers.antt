-- Worked examples on what is told of files, and on the sample register.
use Rattle.std.specs.Prelude.{◌≡◌, true, false, [], Some, None}
use Rattle.gaz_register.specs.Registers.{knows, within}
use Rattle.gaz_keeper.specs.Board.{Board, empty_board, reached}
use Rattle.gaz_views.specs.declared.verdict.Verdict.TheVariants as verdict
use Rattle.gaz_steps.specs.Outcomes.{held_count, outcome, outcome_of, status, wants}
use Rattle.gaz_steps.specs.Sample.{sample_custodians, sample_door, sample_register, state_of}
use Rattle.gaz_steps.specs.declared.outcome.Outcome.TheVariants.{Applied, Rejected, Held}
use Rattle.gaz_steps.specs.Examples.{all_sent, gap_hub, no_text, one_judged, sent, three_judged}

pub record WorkedOutcomes : Type 0 where
  pub of_applied : outcome_of verdict.Applied ≡ Applied
  pub of_rejected : outcome_of (verdict.Rejected 3 8) ≡ Rejected 3 8
  pub judged : outcome sent one_judged 1003 1 ≡ Some (Rejected 1 1)
  pub held : outcome sent one_judged 1003 3 ≡ Some (Held 1003 2)
  pub held_no_longer : outcome all_sent three_judged 1003 3 ≡ Some (Rejected 1 1)
  pub wants_the_missing : wants sent one_judged 1003 ≡ Some (1003, 2)
  pub wants_the_first : wants sent one_judged 1002 ≡ Some (1002, 1)
  pub wants_nothing_when_ready : wants sent empty_board 1003 ≡ None
  pub wants_nothing_after_the_last : (board : Board) → reached board 1003 ≡ 999_999
      → wants sent board 1003 ≡ None
  pub holds_one : held_count sent one_judged 1003 ≡ 1
  pub held_before : held_count sent empty_board 1003 ≡ 2
  pub holds_no_others : held_count sent one_judged 1002 ≡ 0
  pub stands : status sent one_judged 1003
      ≡ record { custodian = 1003; held = 1; judged = 1; wants = Some (1003, 2) }

pub record WorkedSample : Type 0 where
  pub first_code : knows sample_custodians 1001 ≡ true
  pub last_code : knows sample_custodians 1003 ≡ true
  pub no_code : knows sample_custodians 1004 ≡ false
  pub last_of_block : within (sample_register 1001).usrn 199 ≡ true
  pub greatest_street : within (sample_register 1001).usrn 99_999_999 ≡ true
  pub of_a_neighbour : within (sample_register 1001).usrn 200 ≡ false
  pub in_second_block : within (sample_register 1002).usrn 200 ≡ true
  pub in_third_block : within (sample_register 1003).usrn 399 ≡ true
  pub without_code : (sample_register 1004).usrn ≡ []
  pub not_known : knows sample_door.register 1004 ≡ false
  pub none_foreign : sample_door.is_foreign no_text ≡ false
  pub state : state_of sent ≡ gap_hub

pub record WorkedAnswers : Type 0 where
  pub on_outcomes : WorkedOutcomes
  pub on_sample : WorkedSample
