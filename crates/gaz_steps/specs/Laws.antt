-- What holds of whole runs over a keeper, and of the views on a board.
use Rattle.std.specs.Prelude.{◌≡◌, ℕ, true, List, [], ◌∷◌, ◌++◌, IsSome, None, Ok}
use Rattle.std.specs.FinMap as map
use Rattle.gaz_register.specs.Registers.{IsRegister, RegisterValue, blocks_of}
use Rattle.gaz_keeper.specs.Board.{Board}
use Rattle.gaz_keeper.specs.Keeper.{Seen}
use Rattle.gaz_keeper.specs.Received.{Received}
use Rattle.gaz_rules.specs.Sound.{IsSoundBoard}
use Rattle.gaz_steps.specs.Answers.{AllAnswered}
use Rattle.gaz_steps.specs.Hubs.{Runs, StandsFor, Steps, state_of}
use Rattle.gaz_steps.specs.Outcomes.{outcome}
use Rattle.gaz_steps.specs.Runs.{AbidesFrom}
use Rattle.gaz_steps.specs.Standing.{IsPartial, NothingReady}
use Rattle.gaz_steps.specs.Step.{Command, Door, HubState, Pose, Replied, Response, Step}
use Rattle.gaz_steps.specs.Step.{is_volume}
use Rattle.gaz_steps.specs.declared.question.Question.TheVariants.{Ask}

-- every view of a partial board is sound
abbrev pub AllSound : Type 0
AllSound =
    (register : RegisterValue) (files : Received) (board : Board) → IsRegister register
    → IsPartial (blocks_of register) files board → IsSoundBoard (blocks_of register) board

-- ---- what is told of a received file

-- on a board on which nothing is ready it has an outcome, at each volume that the door lets in
abbrev pub HasOutcome : Type 0
HasOutcome = (files : Received) (board : Board) (c volume : ℕ)
    → NothingReady files board → is_volume volume ≡ true → IsSome (map.get files (c, volume))
    → IsSome (outcome files board c volume)

-- a hub that is asked for an outcome tells nothing only where nothing was received
abbrev pub NothingOfNothing : Type 0
NothingOfNothing = (door : Door) (old new : HubState) (c volume : ℕ)
    → Step door old (Pose (Ask c volume)) (Replied (Ask c volume) (Ok None)) new
    → map.get new.received (c, volume) ≡ None

pub record EachIsTold : Type 0 where
  pub on_a_board : HasOutcome
  pub when_asked : NothingOfNothing

-- ---- calls one after another

-- no call, one, and some after others are runs
pub record CallsMakeRuns {K : Type 0} (seen : K → Seen) : Type 0 where
  pub none : (door : Door) (a : K) → Runs door (seen a) (seen a) [] []
  pub one : (door : Door) (a b : K) (command : Command) (response : Response)
      → Steps door (seen a) (seen b) command response
      → Runs door (seen a) (seen b) (command ∷ []) (response ∷ [])
  pub joined : (door : Door) (a b c : K) (commands others : List Command)
      (responses replies : List Response)
      → Runs door (seen a) (seen b) commands responses → Runs door (seen b) (seen c) others replies
      → Runs door (seen a) (seen c) (commands ++ others) (responses ++ replies)

-- ---- over a keeper that stands for a partial run

-- the keeper still does: of what was there before and then of what came first, and of the standing
-- board where the last response settles
pub record StandsFrom (door : Door) (old : Seen) (commands : List Command)
    (responses : List Response) (new : Seen) : Type 0 where
  pub stands : StandsFor door new
  pub abides : AbidesFrom door (state_of old.content) commands responses (state_of new.content)

-- whatever commands come, where nobody else wrote on what the keeper keeps and no failure shut it
abbrev pub EveryRunFromOver : {K : Type 0} → (K → Seen) → Type 0
EveryRunFromOver {K} seen =
    (door : Door) (old new : K) (commands : List Command) (responses : List Response)
    → StandsFor door (seen old) → (seen new).unharmed
    → Runs door (seen old) (seen new) commands responses
    → StandsFrom door (seen old) commands responses (seen new)

-- each answer is read off the standing board of the files that are received by then
abbrev pub EveryAnswerOver : {K : Type 0} → (K → Seen) → Type 0
EveryAnswerOver {K} seen =
    (door : Door) (old new : K) (commands : List Command) (responses : List Response)
    → StandsFor door (seen old) → (seen new).unharmed
    → Runs door (seen old) (seen new) commands responses
    → AllAnswered door (seen old).content.files commands responses (seen new).content.files
