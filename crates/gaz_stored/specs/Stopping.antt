-- What a stop leaves of a conversation over a database.
use Rattle.std.specs.Prelude.{◌≡◌, ℕ, List, [], ◌∷◌, ◌++◌, Err}
use Rattle.sqlite.specs.Effect.{Database, IsDatabase}
use Rattle.sqlite.specs.State.{HasCleanDisk, State}
use Rattle.sqlite_trees.specs.Tree.{Trees}
use Rattle.gaz_register.specs.Registers.{RegisterValue}
use Rattle.gaz_keeper.specs.declared.fault.ShelfFault.TheVariants.{Store}
use Rattle.gaz_steps.specs.Found.{HasFilesOf}
use Rattle.gaz_steps.specs.Hubs.{door_of}
use Rattle.gaz_steps.specs.Runs.{Run}
use Rattle.gaz_steps.specs.Step.{Command, Door, HubState, Pose, Replied, Response, Submit}
use Rattle.gaz_steps.specs.Step.{Submitted}
use Rattle.gaz_steps.specs.Stops.{HasAllTold, HasReceived}
use Rattle.gaz_steps.specs.declared.answer.Answer.TheVariants.{Refused}
use Rattle.gaz_steps.specs.declared.question.Question.TheVariants.{Settle}
use Rattle.gaz_steps.specs.declared.refusal.Refusal.TheVariants.{NotReceived, ReceivedUnsettled}
use Rattle.gaz_calls.specs.Seen.{IsUnharmed}
use Rattle.gaz_stored.specs.Runs.{IsStoreOf, hub_in}

-- ---- a run that is cut off

-- settling is cut off, which is 51
abbrev pub cut_settling : Response
cut_settling = Replied Settle (Err (NotReceived Store))

-- a file was received and not settled, which is 52
abbrev pub cut_receiving : Response
cut_receiving = Submitted (Refused (ReceivedUnsettled Store))

-- of these commands and responses those are left: the first of them, and behind them one that was
-- cut off, a settling or the next submission
pub data IsCutTo (commands : List Command) (responses : List Response) (asked : List Command)
    (said : List Response) : Type 0 where
  CutSettling : (earlier later : List Command) (told more : List Response)
      → commands ≡ earlier ++ later → responses ≡ told ++ more
      → asked ≡ earlier ++ Pose Settle ∷ [] → said ≡ told ++ cut_settling ∷ []
      → IsCutTo commands responses asked said
  CutReceiving : (earlier later : List Command) (told more : List Response) (c volume : ℕ)
      (bytes : List ℕ)
      → commands ≡ earlier ++ Submit c volume bytes ∷ later → responses ≡ told ++ more
      → asked ≡ earlier ++ Submit c volume bytes ∷ [] → said ≡ told ++ cut_receiving ∷ []
      → IsCutTo commands responses asked said

-- a hub went so far, and is this one
pub record RunsCutOff (door : Door) (before : HubState) (commands : List Command)
    (responses : List Response) (found : HubState) : Type 0 where
  pub asked : List Command
  pub said : List Response
  pub cut : IsCutTo commands responses asked said
  pub run : Run door before asked said found

-- ---- what is found

-- a sound database whose trees a stop at this moment may leave, on a disk that returned what was
-- written
pub record MayBeLeft (s : State) (db : Database) : Type 0 where
  pub clean : HasCleanDisk s
  pub sound : IsDatabase db
  pub left : s.may_leave db.trees

-- a stop leaves just what the connection shows
abbrev pub LeavesItself : State → Type 0
LeavesItself s = (trees : Trees) → HasCleanDisk s → s.may_leave trees → trees ≡ s.now.trees

-- a database that was left of a conversation: it is a store of the register again, as the next
-- conversation asks of it
pub record IsFoundLater (register : RegisterValue) (before : HubState) (commands : List Command)
    (responses : List Response) (after : State) (db : Database) : Type 0 where
  pub store : IsStoreOf register db
  -- of a hub that went as far as some of the commands, and that in hand at most, whatever became of
  -- the connection
  pub run : RunsCutOff (door_of register) before commands responses (hub_in db)
  -- with each file that one of the commands received
  pub received : HasReceived commands responses (hub_in db).received
  -- and with each that was answered New, Repeat, Taken or 52, as long as the answers are steps
  pub told : HasAllTold (door_of register) before commands responses (hub_in db).received
  -- and of all that are received, and at most one more that was answered 51 and since which nothing
  -- has changed, where the connection is open in the end
  pub now : IsUnharmed after → HasFilesOf (door_of register) before (hub_in after.now)
      commands responses (hub_in db).received

-- whatever a stop leaves of it is found so
abbrev pub FindsLater : RegisterValue → HubState → List Command → List Response → State → Type 0
FindsLater register before commands responses after =
    (db : Database) → MayBeLeft after db
    → IsFoundLater register before commands responses after db
