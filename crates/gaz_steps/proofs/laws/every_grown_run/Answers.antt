use Rattle.gaz_steps.proofs.Growing.{every_grown_run_holds}
use Rattle.gaz_steps.proofs.laws.every_grown_run.Goals as goal

pub returns : goal.returns
returns c = every_grown_run_holds
