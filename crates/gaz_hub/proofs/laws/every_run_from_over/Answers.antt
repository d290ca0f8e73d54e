use Rattle.gaz_steps.proofs.Headline.{every_run_from_over}
use Rattle.gaz_hub.specs.Seen.{hub_seen}
use Rattle.gaz_hub.proofs.laws.every_run_from_over.Goals as goal

pub returns : goal.returns
returns g c = record { keeper = every_run_from_over g.K.Shelf.seen; hub = every_run_from_over (hub_seen g.K.Shelf.seen) }
