use Rattle.gaz_filing.proofs.Joining.{next_opens}
use Rattle.gaz_filing.proofs.laws.next_opens.Goals as goal

pub returns : goal.returns
returns g c = next_opens g.D.Disk
