use Rattle.gaz_chains.proofs.Worked.{worked_chains_holds}
use Rattle.gaz_chains.proofs.laws.worked_chains.Goals as goal

pub returns : goal.returns
returns c = worked_chains_holds
