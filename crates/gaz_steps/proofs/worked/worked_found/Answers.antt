use Rattle.gaz_steps.proofs.WorkedFound.{worked_found_hold}
use Rattle.gaz_steps.proofs.worked.worked_found.Goals as goal

pub returns : goal.returns
returns g c = worked_found_hold g.K.Shelf.seen
