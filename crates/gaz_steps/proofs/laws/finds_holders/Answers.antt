use Rattle.gaz_steps.proofs.ChainGrowth.{finds_holders_holds}
use Rattle.gaz_steps.proofs.laws.finds_holders.Goals as goal

pub returns : goal.returns
returns c = finds_holders_holds
