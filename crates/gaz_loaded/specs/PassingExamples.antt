-- Worked examples: what became of two numbers, as a keeper lists it, and what of it is at hand.
use Rattle.std.specs.Prelude.{◌≡◌, List, [], ◌∷◌, Some, None}
use Rattle.gaz_views.specs.declared.custody.Custody.TheVariants.{Adopted, Released}
use Rattle.gaz_keeper.specs.Board.{Board}
use Rattle.gaz_keeper.specs.Keeper.{empty_content}
use Rattle.gaz_overlay.specs.Passages.{PassageRow}
use Rattle.gaz_overlay.specs.Rows.{never}
use Rattle.gaz_loaded.specs.Passing.{AreToldBehind, ComesBehind, passage_of}
use Rattle.gaz_loaded.specs.Restoring.{ArePutBack, HasNoneOrAll, HasPassages}
use Rattle.gaz_loaded.specs.declared.listed.Passage.{Passage}

-- 1001 gave number 500 up with volume 2 and took it back with volume 4, and gave up 501 with
-- volume 1
abbrev pub given_up : PassageRow
given_up = record { uprn = 500; born = 2; gone = 4; custody = Released 1002 1 }

abbrev pub taken_back : PassageRow
taken_back = record { uprn = 500; born = 4; gone = never; custody = Adopted 1002 2 }

abbrev pub another : PassageRow
another = record { uprn = 501; born = 1; gone = never; custody = Released 1003 1 }

-- as they stand in a table
abbrev pub three_rows : List PassageRow
three_rows = given_up ∷ another ∷ taken_back ∷ []

-- as they are told: each number by its volumes
abbrev pub in_order : List Passage
in_order = passage_of given_up ∷ passage_of taken_back ∷ passage_of another ∷ []

-- what comes behind what
pub record WorkedOrder : Type 0 where
  pub told : passage_of taken_back ≡ record { uprn = 500; born = 4; custody = Adopted 1002 2 }
  pub from_the_start : ComesBehind None given_up
  pub later_volume : ComesBehind (Some (passage_of given_up)) taken_back
  pub later_number : ComesBehind (Some (passage_of taken_back)) another
  pub not_itself : ¬ ComesBehind (Some (passage_of given_up)) given_up
  pub not_earlier : ¬ ComesBehind (Some (passage_of another)) taken_back

-- what may be answered
pub record WorkedAnswers : Type 0 where
  pub all : AreToldBehind None three_rows in_order
  pub one : AreToldBehind None three_rows (passage_of given_up ∷ [])
  pub rest : AreToldBehind (Some (passage_of given_up)) three_rows
      (passage_of taken_back ∷ passage_of another ∷ [])
  pub at_the_end : AreToldBehind (Some (passage_of another)) three_rows []
  pub ends_too_early : ¬ AreToldBehind (Some (passage_of taken_back)) three_rows []
  pub one_left_out : ¬ AreToldBehind None three_rows (passage_of taken_back ∷ [])
  pub not_as_they_stand : ¬ AreToldBehind (Some (passage_of given_up)) three_rows
      (passage_of another ∷ passage_of taken_back ∷ [])

-- what is put back where nothing is judged yet, and on a board of one volume with nothing in its
-- view
pub record WorkedBoards (board : Board) : Type 0 where
  pub nothing_told : ArePutBack 1001 board [] board
  pub none_so_far : HasPassages three_rows empty_content.board 1001
  pub one_is_missing : ¬ HasPassages three_rows board 1001
  pub none_or_all : HasNoneOrAll three_rows board 1001
