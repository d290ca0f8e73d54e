use Rattle.gaz_cells.proofs.Ids.{ids_apart}
use Rattle.gaz_cells.proofs.laws.ids_are_apart.Goals as goal

pub returns : goal.returns
returns c = ids_apart
