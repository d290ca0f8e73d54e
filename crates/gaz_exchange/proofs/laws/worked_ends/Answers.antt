use Rattle.gaz_exchange.proofs.WorkedEnds.{worked_ends_hold}
use Rattle.gaz_exchange.proofs.laws.worked_ends.Goals as goal

pub returns : goal.returns
returns c = worked_ends_hold
