use Rattle.gaz_steps.proofs.Runs.{every_repeat_holds}
use Rattle.gaz_steps.proofs.laws.every_repeat.Goals as goal

pub returns : goal.returns
returns c = every_repeat_holds
