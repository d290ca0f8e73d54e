use Rattle.gaz_steps.proofs.Growing.{periods_are_one_run_holds}
use Rattle.gaz_steps.proofs.laws.periods_are_one_run.Goals as goal

pub returns : goal.returns
returns c = periods_are_one_run_holds
