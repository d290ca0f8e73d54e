-- Whole runs of a hub, and what holds after each.
use Rattle.std.specs.Prelude.{◌≡◌, ℕ, Bool, true, false, not, ◌&&◌, if◌then◌else◌, List, [], ◌∷◌}
use Rattle.std.specs.Prelude.{is_none, is_ok, Option, Some, None}
use Rattle.std.specs.List.{last_or}
use Rattle.std.specs.Option.{option_map_or, option_or}
use Rattle.std.specs.Ordering.{eq_by_cmp}
use Rattle.std.specs.FinMap as map
use Rattle.gaz_chains.specs.Chains.{IsPrefixOf}
use Rattle.gaz_keeper.specs.Received.{pair_cmp}
use Rattle.gaz_steps.specs.Standing.{IsPartial, NothingReady, standing}
use Rattle.gaz_steps.specs.Outcomes.{outcome}
use Rattle.gaz_steps.specs.Step.{Command, Door, HubState, Replied, Response, Step, Submit}
use Rattle.gaz_steps.specs.Step.{Submitted}
use Rattle.gaz_steps.specs.Step.{blocks, file_refusal, new_hub}
use Rattle.gaz_steps.specs.declared.answer.Answer.{Answer}
use Rattle.gaz_steps.specs.declared.answer.Answer.TheVariants.{New, Repeat, Taken, Refused}
use Rattle.gaz_steps.specs.declared.outcome.Outcome.{Outcome}
use Rattle.gaz_steps.specs.declared.refusal.Refusal.{Refusal}
use Rattle.gaz_steps.specs.declared.refusal.Refusal.TheVariants as refusal

-- these responses to these commands, one step after another
abbrev pub Run : Door → HubState → List Command → List Response → HubState → Type 0
Run door old [] [] new = new ≡ old
Run door old (command ∷ commands) (response ∷ responses) new =
    (mid : HubState) × Step door old command response mid × Run door mid commands responses new
Run door old [] (response ∷ responses) new = ⊥
Run door old (command ∷ commands) [] new = ⊥

-- after such a response all is settled
abbrev pub is_settled_answer : Answer → Bool
is_settled_answer (New told) = true
is_settled_answer (Repeat told) = true
is_settled_answer (Taken digest) = true
is_settled_answer (Refused r) = false

abbrev pub is_settled : Response → Bool
is_settled (Submitted answer) = is_settled_answer answer
is_settled (Replied q reply) = is_ok reply

-- the last of these responses settles
abbrev pub ends_settled : List Response → Bool
ends_settled responses = option_map_or is_settled (last_or None responses) false

abbrev pub same_pair : ℕ × ℕ → ℕ × ℕ → Bool
same_pair = eq_by_cmp pair_cmp

abbrev pub is_not_received : Refusal → Bool
is_not_received (refusal.NotReceived cause) = true
is_not_received (refusal.ReceivedUnsettled cause) = false
is_not_received (refusal.Door why) = false

-- the submission was answered 51
abbrev pub is_answered_51 : Answer → Bool
is_answered_51 (New told) = false
is_answered_51 (Repeat told) = false
is_answered_51 (Taken digest) = false
is_answered_51 (Refused r) = is_not_received r

-- the bytes of a submission of the pair that passed the door and wasn't answered 51
abbrev pub accepted : Door → ℕ × ℕ → Command → Response → Option (List ℕ)
accepted door p (Submit c volume bytes) (Submitted answer) =
    if same_pair p (c, volume)
    && (is_none (file_refusal door c volume bytes) && not (is_answered_51 answer))
    then Some bytes else None
accepted door p _ _ = None

-- the bytes of the first such submission
abbrev pub first_received : Door → ℕ × ℕ → List Command → List Response → Option (List ℕ)
first_received door p (command ∷ commands) (response ∷ responses) =
    option_or (accepted door p command response) (first_received door p commands responses)
first_received door p _ _ = None

-- ---- the laws of whole runs

-- what is received is what was there before and then what came first, and the board is partial over
-- it; where the last response settles it is the standing one
pub record AbidesFrom (door : Door) (old : HubState) (commands : List Command)
    (responses : List Response) (hub : HubState) : Type 0 where
  pub first : (p : ℕ × ℕ)
      → map.get hub.received p
      ≡ option_or (map.get old.received p) (first_received door p commands responses)
  pub partial : IsPartial (blocks door) hub.received hub.board
  pub settled : ends_settled responses ≡ true → hub.board ≡ standing (blocks door) hub.received

-- whatever commands come to a hub whose board is partial, in whatever order
abbrev pub EveryRunFrom : Type 0
EveryRunFrom =
    (door : Door) (old hub : HubState) (commands : List Command) (responses : List Response)
    → IsPartial (blocks door) old.received old.board → Run door old commands responses hub
    → AbidesFrom door old commands responses hub

-- what was received is what came first, and the board is partial over it; where the last response
-- settles it is the standing one
pub record Abides (door : Door) (commands : List Command) (responses : List Response)
    (hub : HubState) : Type 0 where
  pub first : (p : ℕ × ℕ) → map.get hub.received p ≡ first_received door p commands responses
  pub partial : IsPartial (blocks door) hub.received hub.board
  pub settled : ends_settled responses ≡ true → hub.board ≡ standing (blocks door) hub.received

-- what is received comes first and the board is partial, whatever commands come to a hub that
-- begins with nothing
abbrev pub EveryRun : Type 0
EveryRun =
    (door : Door) (commands : List Command) (responses : List Response) (hub : HubState)
    → Run door new_hub commands responses hub → Abides door commands responses hub

-- a repeat changes nothing where all was settled, and is answered by the outcome then standing
pub record ChangesNothing (door : Door) (old : HubState) (c volume : ℕ) (told : Outcome)
    (new : HubState) : Type 0 where
  pub same : new ≡ old
  pub outcome_is : outcome old.received (standing (blocks door) old.received) c volume ≡ Some told

abbrev pub EveryRepeat : Type 0
EveryRepeat =
    (door : Door) (old new : HubState) (c volume : ℕ) (bytes : List ℕ) (told : Outcome)
    → IsPartial (blocks door) old.received old.board → NothingReady old.received old.board
    → Step door old (Submit c volume bytes) (Submitted (Repeat told)) new
    → ChangesNothing door old c volume told new

-- a judgement once on the board is on every later board at its place
abbrev pub JudgementsStay : Type 0
JudgementsStay =
    (door : Door) (old new : HubState) (command : Command) (response : Response)
    → Step door old command response new → (c : ℕ) → IsPrefixOf (old.board c) (new.board c)

-- a run from a partial board to this hub, whose last response settles
pub record SettledRun (door : Door) (hub : HubState) : Type 0 where
  pub old : HubState
  pub partial : IsPartial (blocks door) old.received old.board
  pub commands : List Command
  pub responses : List Response
  pub run : Run door old commands responses hub
  pub settles : ends_settled responses ≡ true

-- two runs that end settled and with equal received sets leave equal hubs, whatever came and in
-- whatever order
abbrev pub EqualReceived : Type 0
EqualReceived =
    (door : Door) (one other : HubState) → SettledRun door one → SettledRun door other
    → other.received ≡ one.received → other ≡ one
