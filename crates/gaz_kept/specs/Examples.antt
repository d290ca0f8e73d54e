-- Worked examples, computed from the definitions.
use Rattle.std.specs.Prelude.{◌≡◌, ℕ, pos, codes, List, [], ◌∷◌, ◌++◌, take, Some, None}
use Rattle.std.specs.FinMap as map
use Rattle.sqlite.specs.Order.{Row}
use Rattle.sqlite.specs.declared.types.Value.TheVariants.{Int}
use Rattle.gaz_records.specs.declared.key.Key.TheVariants as key
use Rattle.gaz_views.specs.Examples.{street}
use Rattle.gaz_views.specs.declared.verdict.Verdict.TheVariants.{Applied, Rejected}
use Rattle.gaz_keeper.specs.Board.{Board, reached, verdict_on, view_after}
use Rattle.gaz_keeper.specs.Received.{count_above}
use Rattle.gaz_tables.specs.Receiveds.{judged, unjudged}
use Rattle.gaz_row_items.specs.Examples.{changed, changed_101, four_rows}
use Rattle.gaz_row_items.specs.Versions.{histories_in, values_of, view_in}
use Rattle.gaz_kept.specs.Contents.{board_in}
use Rattle.gaz_kept.specs.Files.{files_in, judged_in, reached_in, verdicts_in}
use Rattle.gaz_kept.specs.Kept.{AreInTurn, AreFirst, IsFile, IsVersion}

-- the changed street, as a row that was handed on
abbrev pub handed_on : Row
handed_on = take 11 changed_101 ++ Int (pos 1) ∷ []

-- the changed street, as a row of another custodian, or of none
abbrev pub changed_of : ℕ → Row
changed_of c = Int (pos 2) ∷ values_of c 2 4 changed

-- four volumes of 1001 are judged, the third of them rejected at record 5 by rule 21, and the sixth
-- is held; one of 1002 is judged
abbrev pub applied : ℕ → ℕ → Row
applied c volume = judged 1 (pos 0) 0 (Int (pos 1) ∷ unjudged c volume (codes "file"))

abbrev pub rejected_3 : Row
rejected_3 = judged 2 (pos 5) 21 (Int (pos 3) ∷ unjudged 1001 3 (codes "third"))

abbrev pub held_6 : Row
held_6 = Int (pos 6) ∷ unjudged 1001 6 (codes "sixth")

abbrev pub six_files : List Row
six_files =
    applied 1001 2 ∷ held_6 ∷ applied 1002 1 ∷ applied 1001 1 ∷ applied 1001 4 ∷ rejected_3 ∷ []

pub record WorkedFiles : Type 0 where
  pub judged_row : judged_in 1001 rejected_3 ≡ Some (3, Rejected 5 21)
  pub held_row : judged_in 1001 held_6 ≡ None
  pub of_another : judged_in 1002 rejected_3 ≡ None
  pub there : map.get (files_in six_files) (1001, 6) ≡ Some (codes "sixth")
  pub not_there : map.get (files_in six_files) (1001, 5) ≡ None
  pub verdicts : verdicts_in six_files 1001 ≡ Applied ∷ Applied ∷ Rejected 5 21 ∷ Applied ∷ []
  pub reached : reached_in six_files 1001 ≡ 4
  pub waits : count_above (files_in six_files) 1001 4 ≡ 1
  pub of_1002 : verdicts_in six_files 1002 ≡ Applied ∷ []
  pub of_nobody : verdicts_in six_files 1003 ≡ []

abbrev pub worked_board : Board
worked_board = board_in six_files four_rows

pub record WorkedBoard : Type 0 where
  pub reached : reached worked_board 1001 ≡ 4
  pub verdict : verdict_on worked_board 1001 3 ≡ Some (Rejected 5 21)
  pub held : verdict_on worked_board 1001 6 ≡ None
  pub after_2 : view_after worked_board 1001 2 ≡ view_in four_rows 1001 2
  pub after_3 : map.get (view_after worked_board 1001 3).items (key.Street 101) ≡ Some changed

-- street 101 is current twice
abbrev pub overlapping : List Row
overlapping =
    (Int (pos 1) ∷ values_of 1001 1 1000000 (street 101))
    ∷ (Int (pos 2) ∷ values_of 1001 2 1000000 changed) ∷ []

-- volume 2 is judged, and volume 1 isn't
abbrev pub with_a_gap : List Row
with_a_gap = applied 1001 2 ∷ []

pub record WorkedTables : Type 0 where
  pub file : IsFile rejected_3
  pub held : IsFile held_6
  pub state_7 : ¬ IsFile (judged 7 (pos 0) 0 held_6)
  pub version : IsVersion changed_101
  pub with_a_hop : ¬ IsVersion handed_on
  pub code_0 : ¬ IsVersion (changed_of 0)
  pub code_9999 : IsVersion (changed_of 9999)
  pub code_10000 : ¬ IsVersion (changed_of 10000)
  pub first : AreFirst six_files 1001
  pub gap : ¬ AreFirst with_a_gap 1001
  pub apart : AreInTurn (histories_in four_rows 1001)
  pub overlap : ¬ AreInTurn (histories_in overlapping 1001)

pub record WorkedExamples : Type 0 where
  pub on_files : WorkedFiles
  pub on_boards : WorkedBoard
  pub on_tables : WorkedTables
