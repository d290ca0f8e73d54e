-- What becomes of a hub while connections come and go.
use Rattle.std.specs.Prelude.{◌≡◌, ◌≤◌, ◌<◌, ◌+◌, ℕ, List, [], ◌∷◌, ◌++◌, Option, None}
use Rattle.std.specs.Prelude.{Result, is_ok}
use Rattle.gaz_keeper.specs.Keeper.{Seen}
use Rattle.gaz_steps.specs.Hubs.{Runs, door_of}
use Rattle.gaz_hub.specs.Seen.{hub_seen}
use Rattle.gaz_steps.specs.Step.{Command, Response}
use Rattle.gaz_hub.specs.declared.hub.Hub.{Hub}
use Rattle.gaz_exchange.specs.Conversing.{Conversation, Transfer}
use Rattle.gaz_exchange.specs.Exchanges.{commands_of, responses_of}
use Rattle.gaz_exchange.specs.declared.conversation.Served.{Served}
use Rattle.gaz_exchange.specs.declared.conversation.Stopped.{Stopped}
use Rattle.gaz_stored.specs.Meetings.{Meeting, Missed, Came, Left}

-- who came, with what it said and was told, and who was left
abbrev pub met_through : Transfer → Result Served Stopped → List Meeting
met_through through ended =
    Came through.had through.held ∷ Left through.left through.holds (is_ok ended) ∷ []

-- a peer came, and the hub held a conversation with it, of so many requests at most
pub record Talks {K : Type 0} (seen : K → Seen) (most : ℕ) (old new : Hub K) (met : List Meeting)
    : Type 0 where
  pub through : Transfer
  pub ended : Result Served Stopped
  pub conversation : Conversation (door_of old.register) most through (hub_seen seen old)
      (hub_seen seen new) ended
  pub register : new.register ≡ old.register
  pub met_is : met ≡ met_through through ended

-- one came so; or none could be had, and the hub stayed as it was
pub data TalksOrRests {K : Type 0} (seen : K → Seen) (most : ℕ) (old new : Hub K)
    (met : List Meeting) : Type 0 where
  Talked : Talks seen most old new met → TalksOrRests seen most old new met
  Rested : new ≡ old → met ≡ Missed ∷ [] → TalksOrRests seen most old new met

-- what it was asked meanwhile
abbrev pub commands_at : {K : Type 0} {seen : K → Seen} {most : ℕ} {old new : Hub K}
    {met : List Meeting} → TalksOrRests seen most old new met → List Command
commands_at (Talked talk) = commands_of talk.conversation.exchanges
commands_at (Rested still missed) = []

-- what it said meanwhile
abbrev pub responses_at : {K : Type 0} {seen : K → Seen} {most : ℕ} {old new : Hub K}
    {met : List Meeting} → TalksOrRests seen most old new met → List Response
responses_at (Talked talk) = responses_of talk.conversation.exchanges
responses_at (Rested still missed) = []

-- so many connections, one after another, led from one hub to another; this came of them, and this
-- the hub was asked and said
module _ {K : Type 0} (seen : K → Seen) (most : ℕ) (old : Hub K) where
  pub data InTurn : ℕ → Hub K → List Meeting → List Command → List Response → Type 0 where
    Nobody : InTurn 0 old [] [] []
    Next : (served : ℕ) (mid new : Hub K) (met more : List Meeting) (commands : List Command)
        (responses : List Response) → InTurn served mid met commands responses
        → (turn : TalksOrRests seen most mid new more)
        → InTurn (served + 1) new (met ++ more) (commands ++ commands_at turn)
        (responses ++ responses_at turn)

-- a hub served so many connections, one after another, which is a run of its steps; this came of
-- them
pub record Serves {K : Type 0} (seen : K → Seen) (most served : ℕ) (old new : Hub K)
    (met : List Meeting) : Type 0 where
  pub commands : List Command
  pub responses : List Response
  pub in_turn : InTurn seen most old served new met commands responses
  pub runs : Runs (door_of old.register) (hub_seen seen old) (hub_seen seen new) commands responses

-- so many of the connections that are wanted were answered: one at least
abbrev pub AreSome : ℕ → ℕ → Type 0
AreSome connections served = (served ≤ connections) × (1 ≤ connections → 1 ≤ served)

-- and where this is at hand at last, all of them unless what was at hand was dropped
pub record MayEndEarly {U : Type 0} (connections served : ℕ) (upper : Option U) : Type 0 where
  pub some : AreSome connections served
  pub dropped : served < connections → upper ≡ None
