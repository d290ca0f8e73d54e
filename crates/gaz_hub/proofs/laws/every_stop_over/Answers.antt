use Rattle.gaz_steps.proofs.Finding.{every_stop_over}
use Rattle.gaz_hub.specs.Seen.{hub_seen}
use Rattle.gaz_hub.proofs.laws.every_stop_over.Goals as goal

pub returns : goal.returns
returns g c = record { keeper = every_stop_over g.K.Shelf.seen; hub = every_stop_over (hub_seen g.K.Shelf.seen) }
