-- Which answers the received files give: those read off the standing board.
use Rattle.std.specs.Prelude.{◌≡◌, ◌≢◌, ⊤, ℕ, true, not, ◌&&◌, if◌then◌else◌, is_none, List, []}
use Rattle.std.specs.Prelude.{◌∷◌, Option, Some, None, Result, Ok, Err}
use Rattle.std.specs.FinMap as map
use Rattle.sha2.specs.Sha256.{sha256}
use Rattle.gaz_keeper.specs.Received.{Received, with_file}
use Rattle.gaz_steps.specs.Outcomes.{outcome}
use Rattle.gaz_steps.specs.Runs.{Run, is_answered_51, is_settled}
use Rattle.gaz_steps.specs.Standing.{IsPartial, standing}
use Rattle.gaz_steps.specs.Step.{Command, Door, HubState, Pose, Replied, Response, Submit}
use Rattle.gaz_steps.specs.Step.{Submitted}
use Rattle.gaz_steps.specs.Step.{Told, answer_to, blocks, file_refusal}
use Rattle.gaz_steps.specs.declared.answer.Answer.{Answer}
use Rattle.gaz_steps.specs.declared.answer.Answer.TheVariants.{New, Repeat, Taken, Refused}
use Rattle.gaz_steps.specs.declared.outcome.Outcome.{Outcome}
use Rattle.gaz_steps.specs.declared.question.Question.{Question}
use Rattle.gaz_steps.specs.declared.refusal.Refusal.{Refusal}

-- ---- what is received

-- with the file of a submission, where its place was free, it passed the door and wasn't answered
-- 51
abbrev pub then_received : Door → Received → Command → Response → Received
then_received door files (Submit c volume bytes) (Submitted answer) =
    if is_none (map.get files (c, volume))
    && (is_none (file_refusal door c volume bytes) && not (is_answered_51 answer))
    then with_file files c volume bytes
    else files
then_received door files _ _ = files

-- with the files of all submissions, one after another
abbrev pub received_by : Door → Received → List Command → List Response → Received
received_by door files (command ∷ commands) (response ∷ responses) =
    received_by door (then_received door files command response) commands responses
received_by door files _ _ = files

-- ---- what is answered

-- the outcome of a received file on the standing board
abbrev pub standing_outcome : Door → Received → ℕ → ℕ → Option Outcome
standing_outcome door files c volume = outcome files (standing (blocks door) files) c volume

-- other bytes were received before, with this digest
pub record IsTaken (files : Received) (c volume : ℕ) (bytes digest : List ℕ) : Type 0 where
  pub others : List ℕ
  pub there : map.get files (c, volume) ≡ Some others
  pub differ : others ≢ bytes
  pub digest_is : digest ≡ sha256 others

-- a submission's answer, where these files were received before; a refusal settles nothing
abbrev pub IsAnswerOff : Door → Received → ℕ → ℕ → List ℕ → Answer → Type 0
IsAnswerOff door files c volume bytes (New told) =
    (map.get files (c, volume) ≡ None)
    × (standing_outcome door (with_file files c volume bytes) c volume ≡ Some told)
IsAnswerOff door files c volume bytes (Repeat told) =
    (map.get files (c, volume) ≡ Some bytes) × (standing_outcome door files c volume ≡ Some told)
IsAnswerOff door files c volume bytes (Taken digest) = IsTaken files c volume bytes digest
IsAnswerOff door files c volume bytes (Refused r) = ⊤

-- the hub that has received these and settled all
abbrev pub standing_hub : Door → Received → HubState
standing_hub door files = record { received = files; board = standing (blocks door) files }

-- a reply is the one read off the standing board; ⊤ where it doesn't settle
abbrev pub IsReplyOff : Door → Received → (q : Question) → Result (Told q) Refusal → Type 0
IsReplyOff door files q (Ok told) = told ≡ answer_to q door.register (standing_hub door files)
IsReplyOff door files q (Err r) = ⊤

-- the response, where these files were received before, is the one read off the standing board; ⊤
-- where it doesn't settle
abbrev pub IsReadOff : Door → Received → Command → Response → Type 0
IsReadOff door files (Submit c volume bytes) (Submitted answer) =
    IsAnswerOff door files c volume bytes answer
IsReadOff door files (Pose q) (Replied p reply) = (p ≡ q) × IsReplyOff door files p reply
IsReadOff door files _ _ = ⊥

-- a step from a board that was partial
pub record ReadsStanding (door : Door) (old : HubState) (command : Command) (response : Response)
    (new : HubState) : Type 0 where
  -- the board stays partial
  pub partial : IsPartial (blocks door) new.received new.board
  -- after a response that settles it is the standing board of the files received by then
  pub board : is_settled response ≡ true → new.board ≡ standing (blocks door) new.received
  -- and the response is read off that
  pub read_off : IsReadOff door old.received command response

-- each response is, of the files that are received by then
abbrev pub AllReadOff : Door → Received → List Command → List Response → Type 0
AllReadOff door files [] [] = ⊤
AllReadOff door files (command ∷ commands) (response ∷ responses) =
    IsReadOff door files command response
    × AllReadOff door (then_received door files command response) commands responses
AllReadOff door files [] (response ∷ responses) = ⊥
AllReadOff door files (command ∷ commands) [] = ⊥

-- ---- the law

-- what is received after a run, and what its answers are read off
pub record AllAnswered (door : Door) (before : Received) (commands : List Command)
    (responses : List Response) (after : Received) : Type 0 where
  pub received : after ≡ received_by door before commands responses
  pub read_off : AllReadOff door before commands responses

-- whatever commands come to a hub whose board is partial
abbrev pub EveryAnswer : Type 0
EveryAnswer =
    (door : Door) (old new : HubState) (commands : List Command) (responses : List Response)
    → IsPartial (blocks door) old.received old.board → Run door old commands responses new
    → AllAnswered door old.received commands responses new.received
