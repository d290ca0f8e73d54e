use Rattle.gaz_steps.proofs.ChainFine.{one_chain_holds}
use Rattle.gaz_steps.proofs.laws.one_chain.Goals as goal

pub returns : goal.returns
returns c = one_chain_holds
