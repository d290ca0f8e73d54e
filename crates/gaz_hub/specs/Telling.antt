-- What a call tells of the keeper before it and after it, where `seen` is how the keeper is seen.
use Rattle.std.specs.Prelude.{Result}
use Rattle.gaz_extract.specs.Readings.{Looks}
use Rattle.gaz_register.specs.Registers.{RegisterValue}
use Rattle.gaz_keeper.specs.Board.{Board}
use Rattle.gaz_keeper.specs.Keeper.{Seen}
use Rattle.gaz_keeper.specs.Received.{Received}
use Rattle.gaz_keeper.specs.declared.fault.ShelfFault.{ShelfFault}
use Rattle.gaz_steps.specs.Hubs.{Steps, door_of}
use Rattle.gaz_hub.specs.Settling.{Tells}
use Rattle.gaz_steps.specs.Step.{Command, Pose, Replied, Response, Told}
use Rattle.gaz_steps.specs.declared.question.Question.{Question}
use Rattle.gaz_steps.specs.declared.refusal.Refusal.{Refusal}

-- the answer is right of the files and the board before
abbrev pub LooksAtKept : {K T : Type 0} → (K → Seen) → K → K → Result T ShelfFault
    → (Received → Board → T → Type 0) → Type 0
LooksAtKept seen old new result IsRight =
    Looks (seen old) (seen new) result
    (λ x. IsRight (seen old).content.files (seen old).content.board x)

-- all is settled, and the answer is right of the files and the board then
abbrev pub TellsKept : {K T : Type 0} → (K → Seen) → RegisterValue → K → K → Result T ShelfFault
    → (Received → Board → T → Type 0) → Type 0
TellsKept seen register old new result IsRight =
    Tells (door_of register) (seen old) (seen new) result
    (λ x. IsRight (seen new).content.files (seen new).content.board x)

-- the response to a command is a step
abbrev pub StepsTo : {K : Type 0} → (K → Seen) → RegisterValue → K → K → Command → Response → Type 0
StepsTo seen register old new command response =
    Steps (door_of register) (seen old) (seen new) command response

-- the reply to a question is a step
abbrev pub RepliesTo : {K : Type 0} → (K → Seen) → RegisterValue → K → K → (q : Question)
    → Result (Told q) Refusal → Type 0
RepliesTo seen register old new q reply =
    StepsTo seen register old new (Pose q) (Replied q reply)
