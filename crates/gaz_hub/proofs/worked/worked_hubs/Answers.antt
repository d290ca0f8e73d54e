use Rattle.gaz_hub.proofs.WorkedHubs.{worked_hubs_hold}
use Rattle.gaz_hub.proofs.worked.worked_hubs.Goals as goal

pub returns : goal.returns
returns c = worked_hubs_hold
