use Rattle.gaz_steps.proofs.Growing.{equal_grown_holds}
use Rattle.gaz_steps.proofs.laws.equal_grown.Goals as goal

pub returns : goal.returns
returns c = equal_grown_holds
