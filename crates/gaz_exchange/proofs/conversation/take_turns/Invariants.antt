use Rattle.std.proofs.Common.{◌≡◌}
use Rattle.gaz_steps.specs.Hubs.{door_of}
use Rattle.gaz_hub.specs.Seen.{hub_seen}
use Rattle.gaz_exchange.proofs.ConversationFacts.{IsSoFar}
use Rattle.gaz_exchange.proofs.conversation.take_turns.Given as goal

abbrev pub invariant-loop-n : goal.invariant-loop-n
invariant-loop-n g l =
    IsSoFar (door_of l.fn.hub.register) l.most l.n l.intake.routes (g.R.Source.reads l.fn.r) (g.R.Source.reads l.r)
    (g.R.Source.remaining l.fn.r) (g.R.Source.remaining l.r) (g.W.Sink.contents l.fn.w) (g.W.Sink.contents l.w)
    (hub_seen g.K.Shelf.seen l.fn.hub) (hub_seen g.K.Shelf.seen l.hub) l.intake.inlet × (l.hub.register ≡ l.fn.hub.register)
