-- Conversations of a hub, one after another.
use Rattle.std.proofs.Common.{◌≡◌, ◌+◌, ℕ, List, [], ◌++◌, ap, subst, sym}
use Rattle.gaz_keeper.specs.Keeper.{Seen}
use Rattle.gaz_steps.specs.Hubs.{Runs, door_of}
use Rattle.gaz_hub.specs.Seen.{hub_seen}
use Rattle.gaz_hub.specs.declared.hub.Hub.{Hub}
use Rattle.gaz_steps.proofs.HubRuns.{runs_none, runs_then}
use Rattle.gaz_stored.specs.Meetings.{Meeting}
use Rattle.gaz_stored.specs.Serving.{Next, Nobody, Rested, Serves, Talked, TalksOrRests, commands_at, responses_at}

module _ {K : Type 0} (seen : K → Seen) (most : ℕ) where
  pub none : (hub : Hub K) → Serves seen most 0 hub hub []
  none hub = record { commands = []; responses = []; in_turn = Nobody; runs = runs_none (door_of hub.register) (hub_seen seen hub) }

  -- what is asked and said at a connection is a run
  runs_at : (mid new : Hub K) (more : List Meeting) (turn : TalksOrRests seen most mid new more) → Runs (door_of mid.register) (hub_seen seen mid) (hub_seen seen new) (commands_at turn) (responses_at turn)
  runs_at mid new more (Talked talk) = talk.conversation.runs
  runs_at mid new more (Rested still missed) = subst (λ h. Runs (door_of mid.register) (hub_seen seen mid) (hub_seen seen h) [] []) (sym still) (runs_none (door_of mid.register) (hub_seen seen mid))

  pub one_more : (n : ℕ) (old mid new : Hub K) → mid.register ≡ old.register → (met more : List Meeting) → Serves seen most n old mid met → TalksOrRests seen most mid new more
      → Serves seen most (n + 1) old new (met ++ more)
  one_more n old mid new same met more first turn =
      let next = subst (λ r. Runs (door_of r) (hub_seen seen mid) (hub_seen seen new) (commands_at turn) (responses_at turn)) same (runs_at mid new more turn) in
      record {
        commands = first.commands ++ commands_at turn;
        responses = first.responses ++ responses_at turn;
        in_turn = Next n mid new met more first.commands first.responses first.in_turn turn;
        runs = runs_then (door_of old.register) (hub_seen seen old) (hub_seen seen mid) (hub_seen seen new) first.commands (commands_at turn) first.responses (responses_at turn) first.runs next;
      }

  pub same_register : (mid new : Hub K) (more : List Meeting) → TalksOrRests seen most mid new more → new.register ≡ mid.register
  same_register mid new more (Talked talk) = talk.register
  same_register mid new more (Rested still missed) = ap (λ (h : Hub K). h.register) still
