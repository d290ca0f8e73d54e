use Rattle.gaz_steps.proofs.Runs.{every_run_from_holds}
use Rattle.gaz_steps.proofs.laws.every_run_from.Goals as goal

pub returns : goal.returns
returns c = every_run_from_holds
