-- What is found of a hub that was stopped.
use Rattle.std.specs.Prelude.{◌≡◌, ◌⊎◌, ℕ, List, [], ◌∷◌, ◌++◌, None}
use Rattle.std.specs.FinMap as map
use Rattle.gaz_keeper.specs.Keeper.{Content, LeavesOnly, Seen}
use Rattle.gaz_keeper.specs.Received.{Received, with_file}
use Rattle.gaz_keeper.specs.declared.fault.ShelfFault.{ShelfFault}
use Rattle.gaz_views.specs.View.{empty_view}
use Rattle.gaz_steps.specs.Hubs.{AreKnown, Runs, StandsFor, state_of}
use Rattle.gaz_steps.specs.Runs.{Run}
use Rattle.gaz_steps.specs.Standing.{IsPartial}
use Rattle.gaz_steps.specs.Step.{Command, Door, HubState, Response, Submit, Submitted, blocks}
use Rattle.gaz_steps.specs.Step.{file_refusal}
use Rattle.gaz_steps.specs.Stops.{HasAllTold, HasReceived}
use Rattle.gaz_steps.specs.declared.answer.Answer.TheVariants.{Refused}
use Rattle.gaz_steps.specs.declared.refusal.Refusal.TheVariants.{NotReceived}

-- ---- which files

-- those of this hub and one more, which this submission brought
pub record HasOneMore (door : Door) (hub : HubState) (command : Command) (files : Received)
    : Type 0 where
  pub c : ℕ
  pub volume : ℕ
  pub bytes : List ℕ
  pub command_is : command ≡ Submit c volume bytes
  pub let_in : file_refusal door c volume bytes ≡ None
  pub free : map.get hub.received (c, volume) ≡ None
  pub files_are : files ≡ with_file hub.received c volume bytes

-- those of the last hub and one more, that of a command which was answered 51, and since which
-- nothing has changed
pub record HasOneSince (door : Door) (before last : HubState) (commands : List Command)
    (responses : List Response) (files : Received) : Type 0 where
  pub earlier : List Command
  pub told : List Response
  pub command : Command
  pub cause : ShelfFault
  pub later : List Command
  pub more : List Response
  pub commands_are : commands ≡ earlier ++ command ∷ later
  pub responses_are : responses ≡ told ++ Submitted (Refused (NotReceived cause)) ∷ more
  pub run : Run door before (earlier ++ command ∷ [])
      (told ++ Submitted (Refused (NotReceived cause)) ∷ []) last
  pub since : Run door last later more last
  pub one_more : HasOneMore door last command files

-- those of the last hub, or these and one more
abbrev pub HasFilesOf : Door → HubState → HubState → List Command → List Response → Received
    → Type 0
HasFilesOf door before last commands responses files =
    (files ≡ last.received) ⊎ HasOneSince door before last commands responses files

-- those of this hub, or these and one more, that of the first of these commands
abbrev pub HasFilesAt : Door → HubState → List Command → Received → Type 0
HasFilesAt door hub [] files = files ≡ hub.received
HasFilesAt door hub (command ∷ commands) files =
    (files ≡ hub.received) ⊎ HasOneMore door hub command files

-- those of the hub to which some of the commands had led, from the first on, or these and one more,
-- that of the command in hand
pub record HasFilesAfter (door : Door) (hub : HubState) (commands : List Command)
    (responses : List Response) (files : Received) : Type 0 where
  pub earlier : List Command
  pub told : List Response
  pub later : List Command
  pub more : List Response
  pub commands_are : commands ≡ earlier ++ later
  pub responses_are : responses ≡ told ++ more
  pub mid : HubState
  pub run : Run door hub earlier told mid
  pub files_at : HasFilesAt door mid later files

-- ---- the law

-- what a stop left after a run is a partial run of files of custodians that the door knows, as the
-- next hub asks for it
pub record IsFound (door : Door) (old new : Seen) (commands : List Command)
    (responses : List Response) (k : Content) : Type 0 where
  pub working : k.working ≡ empty_view
  pub known : AreKnown door k.files
  pub partial : IsPartial (blocks door) k.files k.board
  -- of files that had been received, and that in hand at most, whatever became of the keeper
  pub ever : HasFilesAfter door (state_of old.content) commands responses k.files
  -- with each that one of the commands received
  pub received : HasReceived commands responses k.files
  -- and with each that was answered New, Repeat, Taken or 52, as long as the answers are steps
  pub told : HasAllTold door (state_of old.content) commands responses k.files
  -- and of all that are received, and at most one more that was answered 51 and since which nothing
  -- has changed, where nobody else wrote on what it keeps and no failure shut it
  pub now : new.unharmed
      → HasFilesOf door (state_of old.content) (state_of new.content) commands responses k.files

-- whatever commands came to a keeper that stood for a partial run, of which a stop left just that
abbrev pub EveryStopOver : {K : Type 0} → (K → Seen) → Type 0
EveryStopOver {K} seen =
    (door : Door) (old new : K) (commands : List Command) (responses : List Response)
    → StandsFor door (seen old) → LeavesOnly (seen old).content (seen old)
    → Runs door (seen old) (seen new) commands responses
    → (k : Content) → (seen new).leaves k
    → IsFound door (seen old) (seen new) commands responses k
