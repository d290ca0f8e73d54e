use Rattle.gaz_steps.proofs.ChainGrowth.{chains_are_short_hold}
use Rattle.gaz_steps.proofs.laws.chains_are_short.Goals as goal

pub returns : goal.returns
returns c = chains_are_short_hold
