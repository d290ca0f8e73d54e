use Rattle.gaz_chains.proofs.Unique.{chains_go_on_holds}
use Rattle.gaz_chains.proofs.laws.chains_go_on.Goals as goal

pub returns : goal.returns
returns c = chains_go_on_holds
