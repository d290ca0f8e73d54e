use Rattle.gaz_cells.proofs.Ids.{ids_order}
use Rattle.gaz_cells.proofs.laws.ids_are_ordered.Goals as goal

pub returns : goal.returns
returns c = ids_order
