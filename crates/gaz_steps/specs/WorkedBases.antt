-- Worked examples of boards with a file that is applied, and with one that rests on it.
use Rattle.std.specs.Prelude.{◌≡◌, ◌==◌, true, false, List, [], ◌∷◌, ◌++◌, ℕ, if◌then◌else◌, codes}
use Rattle.std.specs.Prelude.{Some, None}
use Rattle.std.specs.FinMap as map
use Rattle.gaz_changefile.specs.Reading.{Good, Reading, reading}
use Rattle.gaz_views.specs.Examples.{one_street}
use Rattle.gaz_views.specs.View.{empty_view}
use Rattle.gaz_views.specs.declared.verdict.Verdict.TheVariants as verdict
use Rattle.gaz_rules.specs.Examples.{file_of, insertion}
use Rattle.gaz_keeper.specs.Board.{Board, Judgement, empty_board}
use Rattle.gaz_keeper.specs.Received.{Received, with_file}
use Rattle.gaz_steps.specs.Outcomes.{outcome, wants}
use Rattle.gaz_steps.specs.Sample.{sample_register}
use Rattle.gaz_steps.specs.Standing.{judge_one, ready, standing}
use Rattle.gaz_steps.specs.WorkedBoards.{basis}
use Rattle.gaz_steps.specs.declared.outcome.Outcome.TheVariants.{Applied, Held}

abbrev line : List ℕ → List ℕ
line text = text ++ (10 ∷ [])

-- volume 1 of custodian 1001 inserts street 101
unfoldable pub street_text : List ℕ
street_text =
    line (codes "10,1,1001,1,2024-01-02")
    ++ (line (codes "11,I,1,101,1,2001-04-01,") ++ line (codes "99,1"))

-- volume 1 of custodian 1002 has no change, and rests on that
unfoldable pub resting_text : List ℕ
resting_text =
    line (codes "10,1,1002,1,2024-01-10") ++ (line (codes "90,1001,1") ++ line (codes "99,0"))

abbrev pub resting_file : Reading
resting_file =
    Good
    (record
    { date = record { year = 2024; month = 1; day = 10 }; bases = basis 1001 1 ∷ []; changes = [] })

abbrev pub resting_sent : Received
resting_sent = with_file map.empty 1002 1 resting_text

abbrev pub both_sent : Received
both_sent = with_file resting_sent 1001 1 street_text

abbrev pub street_judged : Judgement
street_judged = record { verdict = verdict.Applied; view = one_street }

abbrev pub resting_judged : Judgement
resting_judged = record { verdict = verdict.Applied; view = empty_view }

abbrev pub street_board : Board
street_board = λ c. if c == 1001 then street_judged ∷ [] else []

abbrev pub both_board : Board
both_board =
    λ c. if c == 1001 then street_judged ∷ [] else (if c == 1002 then resting_judged ∷ [] else [])

pub record WorkedBases : Type 0 where
  pub street_reads : reading street_text 1001 1 ≡ file_of (insertion ∷ [])
  pub resting_reads : reading resting_text 1002 1 ≡ resting_file
  pub waits_for_its_basis : ready both_sent empty_board 1002 ≡ false
  pub names_its_basis : wants both_sent empty_board 1002 ≡ Some (1001, 1)
  pub is_ready_then : ready both_sent street_board 1002 ≡ true
  pub waits_for_nothing_then : wants both_sent street_board 1002 ≡ None
  pub street_is_judged : judge_one sample_register both_sent empty_board 1001 ≡ street_board
  pub then_the_other : judge_one sample_register both_sent street_board 1002 ≡ both_board
  pub both_stand : standing sample_register both_sent ≡ both_board
  pub alone_it_is_held : standing sample_register resting_sent ≡ empty_board
  pub told_held : outcome resting_sent empty_board 1002 1 ≡ Some (Held 1001 1)
  pub told_applied : outcome both_sent both_board 1002 1 ≡ Some Applied
