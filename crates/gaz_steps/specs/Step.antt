-- What a hub may do at a command.
use Rattle.std.specs.Prelude.{◌≡◌, ◌≢◌, ℕ, nat_le, Bool, not, ◌&&◌, if◌then◌else◌, List, length}
use Rattle.std.specs.Prelude.{Option, Some, None, Result, Ok, Err}
use Rattle.std.specs.Option.{option_and_then, option_map}
use Rattle.std.specs.FinMap as map
use Rattle.sha2.specs.Sha256.{sha256}
use Rattle.gaz_ids.specs.Limits.{last_volume, most_bytes}
use Rattle.gaz_extract.specs.Closing.{closed_streets}
use Rattle.gaz_extract.specs.Extracts.{extract}
use Rattle.gaz_extract.specs.Lookups.{lookup}
use Rattle.gaz_extract.specs.declared.closed.Closed.{Closed}
use Rattle.gaz_extract.specs.declared.found.Found.{Found}
use Rattle.gaz_register.specs.Registers.{Owners, RegisterValue, blocks_of, knows}
use Rattle.gaz_keeper.specs.Board.{Board, empty_board}
use Rattle.gaz_keeper.specs.Received.{Received, with_file}
use Rattle.gaz_steps.specs.Standing.{Follows, NothingReady}
use Rattle.gaz_steps.specs.Outcomes.{outcome, status}
use Rattle.gaz_steps.specs.declared.answer.Answer.{Answer}
use Rattle.gaz_steps.specs.declared.answer.Answer.TheVariants.{New, Repeat, Taken, Refused}
use Rattle.gaz_steps.specs.declared.outcome.Outcome.{Outcome}
use Rattle.gaz_steps.specs.declared.question.Question.{Question}
use Rattle.gaz_steps.specs.declared.question.Question.TheVariants.{Ask, Extract, ListClosed}
use Rattle.gaz_steps.specs.declared.question.Question.TheVariants.{LookUp, Settle, Stand}
use Rattle.gaz_steps.specs.declared.refusal.DoorRefusal.{DoorRefusal}
use Rattle.gaz_steps.specs.declared.refusal.DoorRefusal.TheVariants as at_door
use Rattle.gaz_steps.specs.declared.refusal.Refusal.{Refusal}
use Rattle.gaz_steps.specs.declared.refusal.Refusal.TheVariants as refusal
use Rattle.gaz_steps.specs.declared.standing.Standing.{Standing}

-- what the hub knows from outside: its register, and which bytes name an unknown profile
pub record Door : Type 0 where
  pub register : RegisterValue
  pub is_foreign : List ℕ → Bool

-- the blocks of each code
abbrev pub blocks : Door → Owners
blocks door = blocks_of door.register

-- what was received, and how far it is judged
pub record HubState : Type 0 where
  pub received : Received
  pub board : Board

-- a hub at its beginning
abbrev pub new_hub : HubState
new_hub = record { received = map.empty; board = empty_board }

-- ---- what is asked, and what is told

-- what each question is told
abbrev pub Told : Question → Type 0
Told (Ask c volume) = Option (List ℕ × Outcome)
Told (Stand c) = Standing
Told Settle = Unit {0}
Told (LookUp uprn) = Option Found
Told (Extract c volume) = Option (List ℕ)
Told ListClosed = List Closed

-- the digest and the outcome of a volume, where it was received
abbrev pub told_of : HubState → ℕ → ℕ → Option (List ℕ × Outcome)
told_of s c volume =
    option_and_then
    (λ bytes. option_map (λ o. (sha256 bytes, o)) (outcome s.received s.board c volume))
    (map.get s.received (c, volume))

-- the answer that a settled hub over this register reads off its state
abbrev pub answer_to : (q : Question) → RegisterValue → HubState → Told q
answer_to (Ask c volume) register s = told_of s c volume
answer_to (Stand c) register s = status s.received s.board c
answer_to Settle register s = tt
answer_to (LookUp uprn) register s = lookup s.board register uprn
answer_to (Extract c volume) register s = extract s.board c volume
answer_to ListClosed register s = closed_streets s.board register

-- a file submitted as a custodian's volume, or a question
pub data Command : Type 0 where
  Submit : ℕ → ℕ → List ℕ → Command
  Pose : Question → Command

-- what the hub answers to each; a reply names its question
pub data Response : Type 0 where
  Submitted : Answer → Response
  Replied : (q : Question) → Result (Told q) Refusal → Response

-- ---- the door

abbrev pub is_volume : ℕ → Bool
is_volume v = nat_le 1 v && nat_le v last_volume

-- the refusals of the door that take no memory: the first that applies
abbrev pub turned_away : Door → ℕ → ℕ → ℕ → Option DoorRefusal
turned_away door c volume size =
    if not (knows door.register c) then Some at_door.UnknownCustodian
    else (if not (is_volume volume) then Some at_door.BadVolume
    else (if not (nat_le size most_bytes) then Some at_door.TooLarge else None))

abbrev pub or_foreign : Bool → Option DoorRefusal → Option DoorRefusal
or_foreign foreign (Some why) = Some why
or_foreign foreign None = if foreign then Some at_door.UnknownProfile else None

-- all refusals of the door: the first that applies
abbrev pub file_refusal : Door → ℕ → ℕ → List ℕ → Option DoorRefusal
file_refusal door c volume bytes =
    or_foreign (door.is_foreign bytes) (turned_away door c volume (length bytes))

-- the refusal of a question at the door
abbrev pub question_refusal : Door → Question → Option DoorRefusal
question_refusal door (Ask c volume) = turned_away door c volume 0
question_refusal door (Stand c) =
    if not (knows door.register c) then Some at_door.UnknownCustodian else None
question_refusal door Settle = None
question_refusal door (LookUp uprn) = None
question_refusal door (Extract c volume) = turned_away door c volume 0
question_refusal door ListClosed = None

-- the refusal of a command at the door, but for that of an unknown profile
abbrev pub early_refusal : Door → Command → Option DoorRefusal
early_refusal door (Submit c volume bytes) = turned_away door c volume (length bytes)
early_refusal door (Pose q) = question_refusal door q

-- the refusal of a command at the door
abbrev pub refusal_at_door : Door → Command → Option DoorRefusal
refusal_at_door door (Submit c volume bytes) = file_refusal door c volume bytes
refusal_at_door door (Pose q) = question_refusal door q

-- ---- the cases of a step

-- the board after follows the board before, and nothing is ready on it
pub record Settles (door : Door) (files : Received) (before after : Board) : Type 0 where
  pub follows : Follows (blocks door) files before after
  pub settled : NothingReady files after

-- a refusal at the door changes nothing
pub record TurnedAway (door : Door) (old : HubState) (command : Command) (why : DoorRefusal)
    (new : HubState) : Type 0 where
  pub refused : refusal_at_door door command ≡ Some why
  pub same : new ≡ old

-- 51: nothing was received, and some earlier files may have been judged
pub record NotReceived (door : Door) (old : HubState) (command : Command)
    (new : HubState) : Type 0 where
  pub let_in : early_refusal door command ≡ None
  pub received : new.received ≡ old.received
  pub board : Follows (blocks door) old.received old.board new.board

-- 52: the file was received, and perhaps not all that is ready was judged
pub record Unsettled (door : Door) (old : HubState) (c volume : ℕ) (bytes : List ℕ)
    (new : HubState) : Type 0 where
  pub let_in : file_refusal door c volume bytes ≡ None
  pub free : map.get old.received (c, volume) ≡ None
  pub received : new.received ≡ with_file old.received c volume bytes
  pub board : Follows (blocks door) new.received old.board new.board

-- the pair was free: the file is received and all is settled
pub record WasNew (door : Door) (old : HubState) (c volume : ℕ) (bytes : List ℕ) (told : Outcome)
    (new : HubState) : Type 0 where
  pub let_in : file_refusal door c volume bytes ≡ None
  pub free : map.get old.received (c, volume) ≡ None
  pub received : new.received ≡ with_file old.received c volume bytes
  pub settled : Settles door new.received old.board new.board
  pub answer : outcome new.received new.board c volume ≡ Some told

-- the same bytes stand there: nothing is received, and all is settled
pub record WasRepeated (door : Door) (old : HubState) (c volume : ℕ) (bytes : List ℕ)
    (told : Outcome) (new : HubState) : Type 0 where
  pub let_in : file_refusal door c volume bytes ≡ None
  pub there : map.get old.received (c, volume) ≡ Some bytes
  pub received : new.received ≡ old.received
  pub settled : Settles door old.received old.board new.board
  pub answer : outcome new.received new.board c volume ≡ Some told

-- other bytes stand there: their digest is told
pub record WasTaken (door : Door) (old : HubState) (c volume : ℕ) (bytes digest : List ℕ)
    (new : HubState) : Type 0 where
  pub let_in : file_refusal door c volume bytes ≡ None
  pub others : List ℕ
  pub there : map.get old.received (c, volume) ≡ Some others
  pub differ : others ≢ bytes
  pub digest_is : digest ≡ sha256 others
  pub received : new.received ≡ old.received
  pub settled : Settles door old.received old.board new.board

-- a question: nothing is received, all is settled, and the answer is read off the state then
pub record WasAsked (door : Door) (old : HubState) (q : Question) (told : Told q)
    (new : HubState) : Type 0 where
  pub let_in : question_refusal door q ≡ None
  pub received : new.received ≡ old.received
  pub settled : Settles door old.received old.board new.board
  pub answer : told ≡ answer_to q door.register new

abbrev pub Submits : Door → HubState → ℕ → ℕ → List ℕ → Answer → HubState → Type 0
Submits door old c volume bytes (New told) new = WasNew door old c volume bytes told new
Submits door old c volume bytes (Repeat told) new = WasRepeated door old c volume bytes told new
Submits door old c volume bytes (Taken digest) new = WasTaken door old c volume bytes digest new
Submits door old c volume bytes (Refused (refusal.NotReceived cause)) new =
    NotReceived door old (Submit c volume bytes) new
Submits door old c volume bytes (Refused (refusal.ReceivedUnsettled cause)) new =
    Unsettled door old c volume bytes new
Submits door old c volume bytes (Refused (refusal.Door why)) new =
    TurnedAway door old (Submit c volume bytes) why new

-- a refusal of a question
abbrev pub Refuses : Door → HubState → Question → Refusal → HubState → Type 0
Refuses door old q (refusal.NotReceived cause) new = NotReceived door old (Pose q) new
Refuses door old q (refusal.ReceivedUnsettled cause) new = ⊥
Refuses door old q (refusal.Door why) new = TurnedAway door old (Pose q) why new

abbrev pub Replies : Door → HubState → (q : Question) → Result (Told q) Refusal → HubState → Type 0
Replies door old q (Ok told) new = WasAsked door old q told new
Replies door old q (Err r) new = Refuses door old q r new

-- from old the hub may give this response to the command and go on to new
abbrev pub Step : Door → HubState → Command → Response → HubState → Type 0
Step door old (Submit c volume bytes) (Submitted answer) new =
    Submits door old c volume bytes answer new
Step door old (Pose q) (Replied p reply) new = (p ≡ q) × Replies door old p reply new
Step door old _ _ new = ⊥
