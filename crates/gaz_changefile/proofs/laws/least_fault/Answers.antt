use Rattle.gaz_changefile.proofs.Least.{least-fault}
use Rattle.gaz_changefile.proofs.laws.least_fault.Goals as goal

pub returns : goal.returns
returns c = least-fault
