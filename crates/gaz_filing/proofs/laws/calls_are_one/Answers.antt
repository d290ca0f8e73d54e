use Rattle.gaz_filing.proofs.Joining.{calls_are_one}
use Rattle.gaz_filing.proofs.laws.calls_are_one.Goals as goal

pub returns : goal.returns
returns g c = calls_are_one g.D.Disk
