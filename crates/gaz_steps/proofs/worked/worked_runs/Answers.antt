use Rattle.gaz_steps.proofs.WorkedRuns.{worked_runs_hold}
use Rattle.gaz_steps.proofs.worked.worked_runs.Goals as goal

pub returns : goal.returns
returns c = worked_runs_hold
