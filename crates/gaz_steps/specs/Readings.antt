-- What readings of a hub come to: over equal received sets, over more files, and of one property.
use Rattle.std.specs.Prelude.{◌≡◌, ◌≤◌, ℕ, true, List, [], ◌∷◌, ◌++◌, Ok}
use Rattle.gaz_extract.specs.Extracts.{extract}
use Rattle.gaz_records.specs.declared.key.Key.TheVariants as key
use Rattle.gaz_register.specs.Registers.{IsRegister, Owners, RegisterValue, blocks_of}
use Rattle.gaz_keeper.specs.Board.{Board, last_view, reached}
use Rattle.gaz_keeper.specs.Received.{HasAllOf, Received}
use Rattle.gaz_views.specs.View.{holds}
use Rattle.gaz_steps.specs.Runs.{Run}
use Rattle.gaz_steps.specs.Standing.{IsPartial, standing}
use Rattle.gaz_steps.specs.Step.{Command, Door, HubState, Pose, Replied, Response, Step, Told}
use Rattle.gaz_steps.specs.Step.{blocks}
use Rattle.gaz_steps.specs.declared.question.Question.{Question}

-- whatever came before, in whatever order, and at whichever partial boards they began: two hubs
-- with equal received sets answer a question equally, wherever both answer it
abbrev pub EqualAnswers : Type 0
EqualAnswers =
    (door : Door) (begun started one other : HubState) (commands others : List Command)
    (responses replies : List Response) (q : Question) (told heard : Told q)
    → IsPartial (blocks door) begun.received begun.board
    → IsPartial (blocks door) started.received started.board
    → Run door begun (commands ++ Pose q ∷ []) (responses ++ Replied q (Ok told) ∷ []) one
    → Run door started (others ++ Pose q ∷ []) (replies ++ Replied q (Ok heard) ∷ []) other
    → other.received ≡ one.received → heard ≡ told

-- the extract of a volume that is reached stays: with more files, and whatever is asked next
pub record ExtractsStay : Type 0 where
  pub with_more_files : (register : Owners) (files bigger : Received) → HasAllOf bigger files
      → (c volume : ℕ) → volume ≤ reached (standing register files) c
      → extract (standing register bigger) c volume ≡ extract (standing register files) c volume
  pub after_a_step : (door : Door) (old new : HubState) (command : Command) (response : Response)
      → Step door old command response new
      → (c volume : ℕ) → volume ≤ reached old.board c
      → extract new.board c volume ≡ extract old.board c volume

-- a property stands in the last view of one custodian at most
abbrev pub OneHolder : Type 0
OneHolder =
    (register : RegisterValue) (files : Received) (board : Board) → IsRegister register
    → IsPartial (blocks_of register) files board
    → (c other uprn : ℕ) → holds (last_view board c) (key.Blpu uprn) ≡ true
    → holds (last_view board other) (key.Blpu uprn) ≡ true → c ≡ other
