-- What isn't for the hub leaves it as it is.
use Rattle.gaz_steps.specs.Hubs.{door_of}
use Rattle.gaz_hub.specs.Seen.{hub_seen}
use Rattle.gaz_exchange.proofs.TurnFacts.{not_asked}
use Rattle.gaz_exchange.proofs.turn.ask.Goals as goal

pub returns-in-Err-clause-asked : goal.returns-in-Err-clause-asked
returns-in-Err-clause-asked g c =
    not_asked (door_of c.args.hub.now.register) c.args.request.now.body.items (hub_seen g.K.Shelf.seen c.args.hub.now) c.args.request.now.call c.in-Err.fault c.in-Err.is
