use Rattle.gaz_calls.proofs.WorkedGrowing.{worked_growing}
use Rattle.gaz_calls.proofs.laws.worked_growing.Goals as goal

pub returns : goal.returns
returns c = worked_growing
