use Rattle.gaz_hub.proofs.WorkedWaiting.{worked_waiting_hold}
use Rattle.gaz_hub.proofs.worked.worked_waiting.Goals as goal

pub returns : goal.returns
returns c = worked_waiting_hold
