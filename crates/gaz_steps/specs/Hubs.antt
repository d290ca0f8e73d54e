-- A hub over a keeper: what each of its calls tells.
use Rattle.std.specs.Prelude.{◌≡◌, ◌≤◌, ◌<◌, ◌⊎◌, ℕ, Bool, true, false, not, ◌&&◌}
use Rattle.std.specs.Prelude.{IsSome, List, [], ◌∷◌}
use Rattle.std.specs.Prelude.{Option, Some, None, Result, Ok, Err}
use Rattle.std.specs.Global.{Vec}
use Rattle.std.specs.Option.{option_and_then, option_map, option_map_or}
use Rattle.std.specs.Result.{result_err}
use Rattle.std.specs.FinMap as map
use Rattle.gaz_changefile.specs.Lines.{is_known_profile}
use Rattle.gaz_changefile.specs.Profile.{profile_of}
use Rattle.gaz_register.specs.Registers.{RegisterValue, knows}
use Rattle.gaz_extract.specs.declared.closed.Closed.{Closed}
use Rattle.gaz_keeper.specs.Received.{Received}
use Rattle.gaz_keeper.specs.Keeper.{Content, IsNotOpen, Seen}
use Rattle.gaz_keeper.specs.declared.fault.ShelfFault.{ShelfFault}
use Rattle.gaz_keeper.specs.declared.fault.ShelfFault.TheVariants.{Memory, Store}
use Rattle.gaz_steps.specs.Step.{Command, Door, HubState, Replied, Response, Step, Submitted}
use Rattle.gaz_steps.specs.Step.{blocks, early_refusal, refusal_at_door}
use Rattle.gaz_steps.specs.Answers.{ReadsStanding}
use Rattle.gaz_steps.specs.Runs.{Run}
use Rattle.gaz_steps.specs.Standing.{IsPartial}
use Rattle.gaz_steps.specs.Stops.{StopsCall, StopsRun}
use Rattle.gaz_steps.specs.declared.answer.Answer.{Answer}
use Rattle.gaz_steps.specs.declared.answer.Answer.TheVariants.{New, Repeat, Taken, Refused}
use Rattle.gaz_steps.specs.declared.refusal.DoorRefusal.{DoorRefusal}
use Rattle.gaz_steps.specs.declared.refusal.Refusal.{Refusal}
use Rattle.gaz_steps.specs.declared.refusal.Refusal.TheVariants as refusal

-- 16: the file names a profile, and it isn't one that a reader of files knows
abbrev pub is_foreign : List ℕ → Bool
is_foreign bytes =
    option_map_or (λ profile. not (is_known_profile profile)) (profile_of bytes) false

-- the door of a hub with this register
abbrev pub door_of : RegisterValue → Door
door_of r = record { register = r; is_foreign = is_foreign }

-- what was received, and how far it is judged, of what a keeper keeps
abbrev pub state_of : Content → HubState
state_of k = record { received = k.files; board = k.board }

-- each received file is of a custodian that the door knows
abbrev pub AreKnown : Door → Received → Type 0
AreKnown door files = (p : ℕ × ℕ) → IsSome (map.get files p) → knows door.register p.0 ≡ true

-- a content that such a hub may have
pub record MayHave (door : Door) (k : Content) : Type 0 where
  pub known : AreKnown door k.files
  -- it is judged by these rules: ready files, one at a time
  pub partial : IsPartial (blocks door) k.files k.board

-- the keeper stands for such a content
abbrev pub StandsFor : Door → Seen → Type 0
StandsFor door s = s.stands × MayHave door s.content

-- the keeper stands for such a content, unless somebody else wrote on what it keeps or a failure
-- shut it
abbrev pub IsSoundFor : Door → Seen → Type 0
IsSoundFor door s = s.unharmed → StandsFor door s

-- ---- what a call tells

-- the fault that a refusal carries
abbrev pub cause_in : Refusal → Option ShelfFault
cause_in (refusal.NotReceived cause) = Some cause
cause_in (refusal.ReceivedUnsettled cause) = Some cause
cause_in (refusal.Door why) = None

abbrev pub refusal_in_answer : Answer → Option Refusal
refusal_in_answer (New told) = None
refusal_in_answer (Repeat told) = None
refusal_in_answer (Taken digest) = None
refusal_in_answer (Refused r) = Some r

-- what is told in place of what was asked
abbrev pub refusal_of : Response → Option Refusal
refusal_of (Submitted answer) = refusal_in_answer answer
refusal_of (Replied q reply) = result_err reply

-- by the door, or by 51: nothing was received, and nothing is answered
abbrev pub is_declined_by : Option Refusal → Bool
is_declined_by None = false
is_declined_by (Some (refusal.ReceivedUnsettled cause)) = false
is_declined_by (Some _) = true

abbrev pub is_declined : Response → Bool
is_declined response = is_declined_by (refusal_of response)

abbrev pub all_declined : List Response → Bool
all_declined [] = true
all_declined (response ∷ responses) = is_declined response && all_declined responses

abbrev pub cause_in_answer : Answer → Option ShelfFault
cause_in_answer answer = option_and_then cause_in (refusal_in_answer answer)

abbrev pub cause_of : Response → Option ShelfFault
cause_of response = option_and_then cause_in (refusal_of response)

-- the bytes of an extract that was told
abbrev pub told : Result (Option (Vec ℕ)) Refusal → Result (Option (List ℕ)) Refusal
told (Ok text) = Ok (option_map (λ (t : Vec ℕ). t.items) text)
told (Err r) = Err r

-- the addresses that were told
abbrev pub told_all : Result (Vec Closed) Refusal → Result (List Closed) Refusal
told_all (Ok closed) = Ok closed.items
told_all (Err r) = Err r

-- a fault is told as 51
abbrev pub or_not_received : {T : Type 0} → Result T ShelfFault → Result T Refusal
or_not_received (Ok x) = Ok x
or_not_received (Err fault) = Err (refusal.NotReceived fault)

-- what is told of a command at the door, whatever the keeper stands for
pub record IsToldAtDoor (door : Door) (command : Command) (response : Response) : Type 0 where
  -- a refusal that takes no memory is told
  pub early : (why : DoorRefusal) → early_refusal door command ≡ Some why
      → refusal_of response ≡ Some (refusal.Door why)
  -- one that takes memory (that of a profile) is told, or that there was none
  pub late : (why : DoorRefusal) → refusal_at_door door command ≡ Some why
      → (refusal_of response ≡ Some (refusal.Door why))
      ⊎ (refusal_of response ≡ Some (refusal.NotReceived Memory))
  -- no other is told
  pub only : (why : DoorRefusal) → refusal_of response ≡ Some (refusal.Door why)
      → refusal_at_door door command ≡ Some why

-- a call at the door, of a keeper that was so before and is so after, whatever it stands for
pub record MeetsDoor {K : Type 0} (door : Door) (old new : K) (command : Command)
    (response : Response) : Type 0 where
  pub at_door : IsToldAtDoor door command response
  -- the keeper isn't called where the door refuses
  pub unasked : IsSome (refusal_at_door door command) → new ≡ old

-- some hub to which this response may lead
abbrev pub Reaches : Door → HubState → Command → Response → Type 0
Reaches door hub command response = (after : HubState) × Step door hub command response after

-- some hub to which these responses may lead
abbrev pub ReachesAll : Door → HubState → List Command → List Response → Type 0
ReachesAll door hub commands responses = (after : HubState) × Run door hub commands responses after

-- one call: where the keeper stood before for a content that the hub may have, and nobody else
-- wrote on it nor did a failure shut it, a step of the hub on that content
pub record Steps (door : Door) (old new : Seen) (command : Command)
    (response : Response) : Type 0 where
  pub harm : new.unharmed → old.unharmed
  pub stands : StandsFor door old → new.unharmed → StandsFor door new
  pub step : StandsFor door old → new.unharmed
      → Step door (state_of old.content) command response (state_of new.content)
  -- what is told is read off the standing board
  pub standing : StandsFor door old → new.unharmed
      → ReadsStanding door (state_of old.content) command response (state_of new.content)
  -- what is declined is a step of any hub to itself
  pub stays : is_declined response ≡ true → (hub : HubState) → Step door hub command response hub
  -- all else is told of a keeper that no failure had shut before
  pub was_open : is_declined response ≡ false → new.trusted → old.unharmed
  -- nor, where it is an answer, by its end
  pub is_open : refusal_of response ≡ None → new.trusted → new.unharmed
  -- so that it is a step of the hub before, whatever became of the keeper in the call
  pub reaches : StandsFor door old → new.trusted
      → Reaches door (state_of old.content) command response
  -- no judgement is in progress afterwards
  pub idle : IsNotOpen new.progress
  pub failures : old.failures ≤ new.failures
  pub trust : new.trusted → old.trusted
  -- 51 and 52 carry Store only where the keeper's count of failures rose
  pub cause : StandsFor door old → new.unharmed → cause_of response ≡ Some Store
      → old.failures < new.failures
  -- what a stop may leave, whatever became of the keeper in the call
  pub stops : IsSoundFor door old
      → StopsCall door old new (state_of old.content) (state_of new.content) command response

-- calls one after another: a run of the hub
pub record Runs (door : Door) (old new : Seen) (commands : List Command)
    (responses : List Response) : Type 0 where
  pub harm : new.unharmed → old.unharmed
  pub stands : StandsFor door old → new.unharmed → StandsFor door new
  pub run : StandsFor door old → new.unharmed
      → Run door (state_of old.content) commands responses (state_of new.content)
  pub idle : IsNotOpen old.progress → IsNotOpen new.progress
  pub failures : old.failures ≤ new.failures
  pub trust : new.trusted → old.trusted
  -- what is declined is a run of any hub to itself
  pub stays : all_declined responses ≡ true → (hub : HubState)
      → Run door hub commands responses hub
  -- all else is told of a keeper that no failure had shut before
  pub was_open : all_declined responses ≡ false → new.trusted → old.unharmed
  -- so that it is a run of the hub before, whatever became of the keeper in the end
  pub reaches : StandsFor door old → new.trusted
      → ReachesAll door (state_of old.content) commands responses
  pub stops : IsSoundFor door old
      → StopsRun door old new (state_of old.content) (state_of new.content) commands responses
