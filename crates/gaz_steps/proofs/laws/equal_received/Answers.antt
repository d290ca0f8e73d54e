use Rattle.gaz_steps.proofs.Runs.{equal_received_holds}
use Rattle.gaz_steps.proofs.laws.equal_received.Goals as goal

pub returns : goal.returns
returns c = equal_received_holds
