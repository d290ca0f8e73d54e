-- Worked examples of what is told of a table's rows in turn.
use Rattle.std.specs.Prelude.{pos, List, [], ◌∷◌, None, Some}
use Rattle.sqlite.specs.Order.{Row}
use Rattle.gaz_views.specs.Examples.{street}
use Rattle.gaz_keeper.specs.Received.{Received}
use Rattle.gaz_row_items.specs.Examples.{changed, changed_101, of_1002}
use Rattle.gaz_kept.specs.Examples.{six_files}
use Rattle.gaz_kept.specs.Files.{files_in}
use Rattle.gaz_loaded.specs.declared.listed.Life.{Life}
use Rattle.gaz_answers.specs.Lives.{SaysLife, TellsLives}
use Rattle.gaz_answers.specs.Volumes.{TellsVolumes}

-- the rows of rowid 2 and 4: what stood at 1001's street 101 from volume 2 until volume 4, and the
-- street 101 that 1002 has since volume 1
abbrev pub two_rows : List Row
two_rows = changed_101 ∷ of_1002 ∷ []

abbrev pub ended_life : Life
ended_life = record { place = pos 2; code = 1001; born = 2; gone = Some 4; item = changed }

abbrev pub current_life : Life
current_life = record { place = pos 4; code = 1002; born = 1; gone = None; item = street 101 }

-- the same, with an end
abbrev pub life_cut_off : Life
life_cut_off = record { place = pos 4; code = 1002; born = 1; gone = Some 5; item = street 101 }

pub record WorkedLives : Type 0 where
  pub ended : SaysLife changed_101 ended_life
  pub current : SaysLife of_1002 current_life
  pub cut_off : ¬ SaysLife of_1002 life_cut_off
  pub both : TellsLives None (ended_life ∷ current_life ∷ []) two_rows
  pub only_first : TellsLives None (ended_life ∷ []) two_rows
  pub behind_2 : TellsLives (Some (pos 2)) (current_life ∷ []) two_rows
  pub at_the_end : TellsLives (Some (pos 4)) [] two_rows
  pub ends_too_early : ¬ TellsLives (Some (pos 2)) [] two_rows
  pub ended_left_out : ¬ TellsLives None (current_life ∷ []) two_rows

-- of 1001 volumes 1 to 4 and 6 were received, of 1002 volume 1
abbrev pub files : Received
files = files_in six_files

pub record WorkedVolumes : Type 0 where
  pub above_3 : TellsVolumes files 1001 3 (4 ∷ 6 ∷ [])
  pub above_6 : TellsVolumes files 1001 6 []
  pub ends_too_early : ¬ TellsVolumes files 1001 3 []
  pub one_left_out : ¬ TellsVolumes files 1001 3 (6 ∷ [])
  pub of_another : ¬ TellsVolumes files 1002 3 (4 ∷ 6 ∷ [])

pub record WorkedTelling : Type 0 where
  pub on_lives : WorkedLives
  pub on_volumes : WorkedVolumes
