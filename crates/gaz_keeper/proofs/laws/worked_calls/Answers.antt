use Rattle.gaz_keeper.proofs.WorkedCalls.{worked_calls_hold}
use Rattle.gaz_keeper.proofs.laws.worked_calls.Goals as goal

pub returns : goal.returns
returns c = worked_calls_hold
