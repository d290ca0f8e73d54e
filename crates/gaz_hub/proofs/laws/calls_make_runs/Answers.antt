use Rattle.gaz_steps.proofs.HubRuns.{calls_make_runs}
use Rattle.gaz_hub.specs.Seen.{hub_seen}
use Rattle.gaz_hub.proofs.laws.calls_make_runs.Goals as goal

pub returns : goal.returns
returns g c = record { keeper = calls_make_runs g.K.Shelf.seen; hub = calls_make_runs (hub_seen g.K.Shelf.seen) }
