use Rattle.gaz_changefile.proofs.Orderly.{bases-rise}
use Rattle.gaz_changefile.proofs.laws.bases_rise.Goals as goal

pub returns : goal.returns
returns c = bases-rise
