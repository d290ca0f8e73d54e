use Rattle.gazhub.proofs.Sessions.{sessions_are_one}
use Rattle.gazhub.proofs.laws.sessions_are_one.Goals as goal

pub returns : goal.returns
returns g c = λ text most. sessions_are_one g.S.Medium.Disk g.S.Site.done text most
