use Rattle.gaz_steps.proofs.Runs.{every_run_holds}
use Rattle.gaz_steps.proofs.laws.every_run.Goals as goal

pub returns : goal.returns
returns c = every_run_holds
