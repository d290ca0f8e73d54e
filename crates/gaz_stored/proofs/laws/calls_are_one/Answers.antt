use Rattle.gaz_stored.proofs.Calling.{calls_are_one}
use Rattle.gaz_stored.proofs.laws.calls_are_one.Goals as goal

pub returns : goal.returns
returns g c = calls_are_one g.S.Store
