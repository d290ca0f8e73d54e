-- What a stop may leave of what a hub keeps.
use Rattle.std.specs.Prelude.{◌≡◌, ◌⊎◌, ⊤, ℕ, Bool, true, false, List, [], ◌∷◌, ◌++◌, length}
use Rattle.std.specs.Prelude.{None, Some}
use Rattle.std.specs.FinMap as map
use Rattle.gaz_keeper.specs.Keeper.{Content, Seen}
use Rattle.gaz_keeper.specs.Received.{Received, with_file}
use Rattle.gaz_views.specs.View.{empty_view}
use Rattle.gaz_steps.specs.Answers.{IsTaken}
use Rattle.gaz_steps.specs.Runs.{Run, is_answered_51}
use Rattle.gaz_steps.specs.Standing.{Follows}
use Rattle.gaz_steps.specs.Step.{Command, Door, HubState, Pose, Response, Step, Submit, Submitted}
use Rattle.gaz_steps.specs.Step.{blocks, file_refusal}
use Rattle.gaz_steps.specs.declared.answer.Answer.TheVariants.{New, Repeat, Taken, Refused}
use Rattle.gaz_steps.specs.declared.refusal.Refusal.TheVariants.{ReceivedUnsettled}

-- ---- what is found

-- no judgement in progress, the files of this hub, and its board or one that follows it
pub record IsLater (door : Door) (hub : HubState) (k : Content) : Type 0 where
  pub working : k.working ≡ empty_view
  pub files : k.files ≡ hub.received
  pub board : Follows (blocks door) hub.received hub.board k.board

-- no judgement in progress, the files of this hub with one more that the door lets in and whose
-- place was free, and its board or one that follows it
pub record IsLaterWith (door : Door) (hub : HubState) (c volume : ℕ) (bytes : List ℕ) (k : Content)
    : Type 0 where
  pub let_in : file_refusal door c volume bytes ≡ None
  pub free : map.get hub.received (c, volume) ≡ None
  pub later : IsLater door
      (record { received = with_file hub.received c volume bytes; board = hub.board }) k

-- what a command may leave of a hub: with its file, where it is a submission, or without
abbrev pub IsLeftBy : Door → Command → HubState → Content → Type 0
IsLeftBy door (Submit c volume bytes) hub k =
    IsLater door hub k ⊎ IsLaterWith door hub c volume bytes k
IsLeftBy door (Pose q) hub k = IsLater door hub k

-- with the file of a submission
abbrev pub IsLeftWith : Door → Command → HubState → Content → Type 0
IsLeftWith door (Submit c volume bytes) hub k = IsLaterWith door hub c volume bytes k
IsLeftWith door (Pose q) hub k = ⊥

-- ---- what a call leaves

-- what may be left of a keeper after a call, of which this hub was seen before and that one after
pub record Stops (old new : Seen) (before after : HubState)
    (IsLeft : HubState → Content → Type 0) : Type 0 where
  -- nothing that it couldn't leave before, but for what the call makes of the hub before it
  pub ever : (k : Content) → new.leaves k → old.leaves k ⊎ (old.unharmed × IsLeft before k)
  -- and while nobody else writes and no failure shuts it: what the call makes of the hub after it,
  -- or what could be left before, where nothing has changed
  pub now : new.unharmed → (k : Content) → new.leaves k
      → (old.leaves k × (after ≡ before)) ⊎ IsLeft after k
  -- whatever is left stands for that again, where that was so before
  pub whole : old.whole → new.whole

-- the file was received in this call
abbrev pub is_taken_in : Response → Bool
is_taken_in (Submitted (New told)) = true
is_taken_in (Submitted (Refused (ReceivedUnsettled cause))) = true
is_taken_in _ = false

-- a call of a hub that is asked this and answers that; once it received the file, each stop leaves
-- it
pub record StopsCall (door : Door) (old new : Seen) (before after : HubState) (command : Command)
    (response : Response) : Type 0 where
  pub stops : Stops old new before after (IsLeftBy door command)
  pub received : is_taken_in response ≡ true → (k : Content) → new.leaves k
      → old.unharmed × IsLeftWith door command before k

-- ---- what a run leaves

-- one of the commands left it, of the hub to which those before had led
pub record IsLeftAfter (door : Door) (commands : List Command) (responses : List Response)
    (hub : HubState) (k : Content) : Type 0 where
  pub earlier : List Command
  pub told : List Response
  pub command : Command
  pub later : List Command
  pub more : List Response
  pub commands_are : commands ≡ earlier ++ command ∷ later
  pub responses_are : responses ≡ told ++ more
  pub mid : HubState
  pub run : Run door hub earlier told mid
  pub left : IsLeftBy door command mid k

-- what a command that was answered so may leave of the hub after it: with its file only after 51
abbrev pub IsLeftOnceTold : Door → Command → Response → HubState → Content → Type 0
IsLeftOnceTold door (Submit c volume bytes) (Submitted answer) hub k =
    IsLater door hub k
    ⊎ ((is_answered_51 answer ≡ true) × IsLaterWith door hub c volume bytes k)
IsLeftOnceTold door _ _ hub k = IsLater door hub k

-- one of them left it, and those after it have changed nothing
pub record IsLeftSince (door : Door) (commands : List Command) (responses : List Response)
    (hub last : HubState) (k : Content) : Type 0 where
  pub earlier : List Command
  pub told : List Response
  pub command : Command
  pub response : Response
  pub later : List Command
  pub more : List Response
  pub commands_are : commands ≡ earlier ++ command ∷ later
  pub responses_are : responses ≡ told ++ response ∷ more
  pub run : Run door hub (earlier ++ command ∷ []) (told ++ response ∷ []) last
  pub since : Run door last later more last
  pub left : IsLeftOnceTold door command response last k

-- these files have that of each command which received one
abbrev pub HasReceived : List Command → List Response → Received → Type 0
HasReceived (Submit c volume bytes ∷ commands) (response ∷ responses) files =
    (is_taken_in response ≡ true → map.get files (c, volume) ≡ Some bytes)
    × HasReceived commands responses files
HasReceived (Pose q ∷ commands) (response ∷ responses) files =
    HasReceived commands responses files
HasReceived _ _ files = ⊤

-- these files have what a submission was told of: its file, where it was answered New, Repeat or
-- 52, and where Taken another one, of the digest that was told
abbrev pub HasTold : Command → Response → Received → Type 0
HasTold (Submit c volume bytes) (Submitted (New told)) files =
    map.get files (c, volume) ≡ Some bytes
HasTold (Submit c volume bytes) (Submitted (Repeat told)) files =
    map.get files (c, volume) ≡ Some bytes
HasTold (Submit c volume bytes) (Submitted (Taken digest)) files =
    IsTaken files c volume bytes digest
HasTold (Submit c volume bytes) (Submitted (Refused (ReceivedUnsettled cause))) files =
    map.get files (c, volume) ≡ Some bytes
HasTold _ _ files = ⊤

-- these files have what each of the commands was told of, as long as the responses are steps of
-- this hub
abbrev pub HasAllTold : Door → HubState → List Command → List Response → Received → Type 0
HasAllTold door hub (command ∷ commands) (response ∷ responses) files =
    (mid : HubState) → Step door hub command response mid
    → HasTold command response files × HasAllTold door mid commands responses files
HasAllTold door hub _ _ files = ⊤

-- calls one after another
pub record StopsRun (door : Door) (old new : Seen) (before after : HubState)
    (commands : List Command) (responses : List Response) : Type 0 where
  pub ever : (k : Content) → new.leaves k
      → old.leaves k ⊎ (old.unharmed × IsLeftAfter door commands responses before k)
  pub now : new.unharmed → (k : Content) → new.leaves k
      → (old.leaves k × (after ≡ before)) ⊎ IsLeftSince door commands responses before after k
  -- once a file is received each stop leaves it, whatever comes then and whatever becomes of the
  -- keeper
  pub answered : length responses ≡ length commands
  pub received : (k : Content) → new.leaves k → HasReceived commands responses k.files
  pub whole : old.whole → new.whole
