use Rattle.gaz_steps.proofs.ChainGrowth.{chains_grow_holds}
use Rattle.gaz_steps.proofs.laws.chains_grow.Goals as goal

pub returns : goal.returns
returns c = chains_grow_holds
