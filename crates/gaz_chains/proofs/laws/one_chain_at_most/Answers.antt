use Rattle.gaz_chains.proofs.Unique.{one_chain_at_most_holds}
use Rattle.gaz_chains.proofs.laws.one_chain_at_most.Goals as goal

pub returns : goal.returns
returns c = one_chain_at_most_holds
