use Rattle.gaz_steps.proofs.WorkedSteps.{worked_steps_hold}
use Rattle.gaz_steps.proofs.worked.worked_steps.Goals as goal

pub returns : goal.returns
returns c = worked_steps_hold
