use Rattle.gaz_register.proofs.Keyed.{sorts-custodians}
use Rattle.gaz_register.proofs.laws.sorts_custodians.Goals as goal

pub returns : goal.returns
returns c = sorts-custodians
