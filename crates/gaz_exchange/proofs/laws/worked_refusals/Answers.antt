use Rattle.gaz_exchange.proofs.WorkedRefusals.{worked_refusals_hold}
use Rattle.gaz_exchange.proofs.laws.worked_refusals.Goals as goal

pub returns : goal.returns
returns c = worked_refusals_hold
