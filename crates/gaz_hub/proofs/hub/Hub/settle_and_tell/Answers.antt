-- The outcome is read off the settled board.
use Rattle.std.proofs.Common.{rules}
use Rattle.gaz_extract.proofs.Readings.{looks_as}
use Rattle.gaz_waiters.specs.Remembered.{known_in}
use Rattle.gaz_hub.specs.Asked.{IsOutcome}
use Rattle.gaz_steps.specs.Hubs.{door_of}
use Rattle.gaz_hub.specs.Seen.{kept_seen}
use Rattle.gaz_hub.specs.Waiting.{IsSo}
use Rattle.gaz_hub.proofs.Memory.{looks_knowing}
use Rattle.gaz_hub.proofs.Telling.{tells_settled}
use Rattle.gaz_hub.proofs.hub.Hub.settle_and_tell.Goals as goal

pub returns-clause-tells : goal.returns-clause-tells
returns-clause-tells g c =
    let hub = c.args.self.now in
    tells_settled (door_of hub.register) (kept_seen g.K.Shelf.seen hub.register) _ (hub.keeper, hub.waiters) (c.settled_knowing.new.keeper, c.settled_knowing.new.waiters) c.settled_knowing.result
    (λ k x. IsOutcome k.files k.board c.args.code c.args.volume x) c.settled_knowing.ensures.calls
    (λ mid called. looks_knowing g.K.Shelf.seen hub.register _ _ _ _ c.args.code
    (λ x. IsOutcome (g.K.Shelf.seen mid.0).content.files (g.K.Shelf.seen mid.0).content.board c.args.code c.args.volume x) c.requires.known called (rw (← called.called.shows, ← called.called.leaves) (looks_as _ _ _
    (λ x. IsSo (g.K.Shelf.seen called.called.shown.now).content.files (g.K.Shelf.seen called.called.shown.now).content.board c.args.code (known_in mid.1 c.args.code)
    → IsOutcome (g.K.Shelf.seen called.called.shown.now).content.files (g.K.Shelf.seen called.called.shown.now).content.board c.args.code c.args.volume x)
    _ (λ x h. h) (search rules))))
