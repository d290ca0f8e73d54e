-- What was there is read off the settled board.
use Rattle.std.proofs.Common.{rules}
use Rattle.gaz_hub.specs.Asked.{AnyIsOfBefore, IsAgain}
use Rattle.gaz_steps.specs.Hubs.{door_of}
use Rattle.gaz_hub.specs.Seen.{kept_seen}
use Rattle.gaz_hub.proofs.Memory.{looks_knowing}
use Rattle.gaz_hub.proofs.Telling.{calls_tell, tells_settled}
use Rattle.gaz_hub.proofs.hub.Hub.settle_and_answer.Goals as goal

pub returns-clause-tells : goal.returns-clause-tells
returns-clause-tells g c =
    let hub = c.args.self.now in
    tells_settled (door_of hub.register) (kept_seen g.K.Shelf.seen hub.register) _ (hub.keeper, hub.waiters) (c.settled_knowing.new.keeper, c.settled_knowing.new.waiters) c.settled_knowing.result
    (λ k x. IsAgain k.files k.board c.args.code c.args.volume c.args.file.now x) c.settled_knowing.ensures.calls
    (λ mid called. looks_knowing g.K.Shelf.seen hub.register _ _ _ _ c.args.code _ c.requires.known called (rw (← called.called.shows, ← called.called.leaves) (search rules)))

pub returns-clause-of_before : goal.returns-clause-of_before
returns-clause-of_before g c =
    let hub = c.args.self.now in
    calls_tell (door_of hub.register) (kept_seen g.K.Shelf.seen hub.register) _ (hub.keeper, hub.waiters) (c.settled_knowing.new.keeper, c.settled_knowing.new.waiters) c.settled_knowing.result
    AnyIsOfBefore c.settled_knowing.ensures.calls (λ mid called. search rules)
