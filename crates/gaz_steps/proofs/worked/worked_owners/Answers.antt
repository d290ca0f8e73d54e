use Rattle.gaz_steps.proofs.WorkedOwners.{worked_owners_hold}
use Rattle.gaz_steps.proofs.worked.worked_owners.Goals as goal

pub returns : goal.returns
returns c = worked_owners_hold
