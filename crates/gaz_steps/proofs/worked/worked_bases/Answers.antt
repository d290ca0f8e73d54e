use Rattle.gaz_steps.proofs.WorkedBases.{worked_bases_hold}
use Rattle.gaz_steps.proofs.worked.worked_bases.Goals as goal

pub returns : goal.returns
returns c = worked_bases_hold
