use Rattle.gaz_steps.proofs.WorkedChains.{worked_chains_hold}
use Rattle.gaz_steps.proofs.worked.worked_chains.Goals as goal

pub returns : goal.returns
returns c = worked_chains_hold
