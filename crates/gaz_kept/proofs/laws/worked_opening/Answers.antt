use Rattle.gaz_kept.proofs.WorkedOpening.{worked_opening_holds}
use Rattle.gaz_kept.proofs.laws.worked_opening.Goals as goal

pub returns : goal.returns
returns c = worked_opening_holds
