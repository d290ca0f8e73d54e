use Rattle.gaz_calls.proofs.WorkedAsking.{worked_asking}
use Rattle.gaz_calls.proofs.laws.worked_asking.Goals as goal

pub returns : goal.returns
returns c = worked_asking
