use Rattle.gaz_steps.proofs.WorkedGrowth.{worked_growth_hold}
use Rattle.gaz_steps.proofs.worked.worked_growth.Goals as goal

pub returns : goal.returns
returns c = worked_growth_hold
