use Rattle.gaz_steps.proofs.Growing.{growth_keeps_holds}
use Rattle.gaz_steps.proofs.laws.growth_keeps.Goals as goal

pub returns : goal.returns
returns c = growth_keeps_holds
