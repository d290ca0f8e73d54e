-- A register that grows beneath a hub: what stays, and runs over registers of which each extends
-- the one before.
use Rattle.std.specs.Prelude.{◌≡◌, ◌++◌, ⊤, ℕ, true, List, [], ◌∷◌, Option, None}
use Rattle.std.specs.FinMap as map
use Rattle.std.specs.Option.{option_or}
use Rattle.gaz_register.specs.Growing.{Extends}
use Rattle.gaz_register.specs.Registers.{IsRegister, RegisterValue, blocks_of}
use Rattle.gaz_chains.specs.Chains.{IsPrefixOf}
use Rattle.gaz_keeper.specs.Board.{Board}
use Rattle.gaz_keeper.specs.Keeper.{Seen}
use Rattle.gaz_keeper.specs.Received.{HasAllOf, Received}
use Rattle.gaz_steps.specs.Answers.{AllReadOff, received_by}
use Rattle.gaz_steps.specs.Hubs.{AreKnown, StandsFor, door_of}
use Rattle.gaz_steps.specs.Runs.{Run, ends_settled, first_received}
use Rattle.gaz_steps.specs.Standing.{IsPartial, standing}
use Rattle.gaz_steps.specs.Step.{Command, HubState, Response, answer_to, refusal_at_door}
use Rattle.gaz_steps.specs.declared.question.Question.{Question}

-- ---- what stays

-- of files of custodians that the old register knows
pub record GrowthKeeps : Type 0 where
  -- the grown one knows them
  pub known : (old grown : RegisterValue) (files : Received) → Extends old grown
      → AreKnown (door_of old) files → AreKnown (door_of grown) files
  -- a partial board stays one
  pub partial : (old grown : RegisterValue) (files : Received) (board : Board) → Extends old grown
      → AreKnown (door_of old) files → IsPartial (blocks_of old) files board
      → IsPartial (blocks_of grown) files board
  -- with more files each custodian's judgements go on from where they were
  pub more : (old grown : RegisterValue) (files bigger : Received) → Extends old grown
      → AreKnown (door_of old) files → HasAllOf bigger files → (c : ℕ)
      → IsPrefixOf (standing (blocks_of old) files c) (standing (blocks_of grown) bigger c)
  -- the standing board is the same, and with it each verdict and each view
  pub standing : (old grown : RegisterValue) (files : Received) → Extends old grown
      → AreKnown (door_of old) files
      → standing (blocks_of grown) files ≡ standing (blocks_of old) files

-- a keeper that stood for a partial run stands for one under the grown register
abbrev pub GrowthStands : {K : Type 0} → (K → Seen) → Type 0
GrowthStands {K} seen =
    (old grown : RegisterValue) (k : K) → Extends old grown
    → StandsFor (door_of old) (seen k) → StandsFor (door_of grown) (seen k)

-- whoever was let in is let in still, and on a partial board whoever asks is answered the same
pub record AnswersStay : Type 0 where
  pub let_in : (old grown : RegisterValue) (command : Command) → Extends old grown
      → refusal_at_door (door_of old) command ≡ None
      → refusal_at_door (door_of grown) command ≡ None
  pub answers : (old grown : RegisterValue) (hub : HubState) (q : Question)
      → IsRegister old → IsRegister grown → Extends old grown
      → AreKnown (door_of old) hub.received
      → IsPartial (blocks_of old) hub.received hub.board
      → answer_to q grown hub ≡ answer_to q old hub

-- ---- periods

-- what a hub was asked and said while this was its register
pub record Period : Type 0 where
  pub register : RegisterValue
  pub commands : List Command
  pub responses : List Response

-- one period after another, each under a register that extends the one before
abbrev pub GrownRun : RegisterValue → HubState → List Period → HubState → Type 0
GrownRun register old [] new = new ≡ old
GrownRun register old (period ∷ periods) new =
    (mid : HubState)
    × Extends register period.register
    × Run (door_of period.register) old period.commands period.responses mid
    × GrownRun period.register mid periods new

abbrev pub last_register : RegisterValue → List Period → RegisterValue
last_register register [] = register
last_register register (period ∷ periods) = last_register period.register periods

-- the bytes of the first submission of a pair that was received, each period's by its own door
abbrev pub first_ever : ℕ × ℕ → List Period → Option (List ℕ)
first_ever p [] = None
first_ever p (period ∷ periods) =
    option_or (first_received (door_of period.register) p period.commands period.responses)
    (first_ever p periods)

-- each response is read off the standing board of the files that are received by then
abbrev pub AllReadOffGrown : Received → List Period → Type 0
AllReadOffGrown files [] = ⊤
AllReadOffGrown files (period ∷ periods) =
    AllReadOff (door_of period.register) files period.commands period.responses
    × AllReadOffGrown
    (received_by (door_of period.register) files period.commands period.responses) periods

-- what is asked in all of them, one after another, and what is said
abbrev pub asked_in : List Period → List Command
asked_in [] = []
asked_in (period ∷ periods) = period.commands ++ asked_in periods

abbrev pub said_in : List Period → List Response
said_in [] = []
said_in (period ∷ periods) = period.responses ++ said_in periods

-- each of them is under this register
abbrev pub AreUnder : RegisterValue → List Period → Type 0
AreUnder register [] = ⊤
AreUnder register (period ∷ periods) =
    (period.register ≡ register) × AreUnder register periods

-- periods that are all under one register are one run under it, whichever was the register before
abbrev pub PeriodsAreOneRun : Type 0
PeriodsAreOneRun =
    (register before : RegisterValue) (old new : HubState) (periods : List Period)
    → AreUnder register periods → GrownRun before old periods new
    → Run (door_of register) old (asked_in periods) (said_in periods) new

-- after it: what is received is what was there before and then what came first; its custodians are
-- known to the last register, and the board is partial under that, and the standing one where the
-- last thing that was said settles
pub record AbidesGrown (register : RegisterValue) (old : HubState) (periods : List Period)
    (new : HubState) : Type 0 where
  pub first : (p : ℕ × ℕ)
      → map.get new.received p ≡ option_or (map.get old.received p) (first_ever p periods)
  pub known : AreKnown (door_of (last_register register periods)) new.received
  pub partial : IsPartial (blocks_of (last_register register periods)) new.received new.board
  pub settled : ends_settled (said_in periods) ≡ true
      → new.board ≡ standing (blocks_of (last_register register periods)) new.received
  pub answers : AllReadOffGrown old.received periods

-- whatever commands come, and however often the register grows between them
abbrev pub EveryGrownRun : Type 0
EveryGrownRun =
    (register : RegisterValue) (old new : HubState) (periods : List Period)
    → AreKnown (door_of register) old.received
    → IsPartial (blocks_of register) old.received old.board → GrownRun register old periods new
    → AbidesGrown register old periods new

-- periods from a partial board to this hub, of which the last thing that was said settles
pub record SettledGrownRun (last : RegisterValue) (hub : HubState) : Type 0 where
  pub register : RegisterValue
  pub old : HubState
  pub known : AreKnown (door_of register) old.received
  pub partial : IsPartial (blocks_of register) old.received old.board
  pub periods : List Period
  pub run : GrownRun register old periods hub
  pub last_is : last_register register periods ≡ last
  pub settles : ends_settled (said_in periods) ≡ true

-- two such under one register in the end, with equal received sets, leave equal hubs, whatever came
-- in whatever order, and whenever the register grew
abbrev pub EqualGrown : Type 0
EqualGrown =
    (last : RegisterValue) (one other : HubState)
    → SettledGrownRun last one → SettledGrownRun last other
    → other.received ≡ one.received → other ≡ one
