use Rattle.gaz_cells.proofs.CellsBack.{cells_follow}
use Rattle.gaz_cells.proofs.laws.cells_follow.Goals as goal

pub returns : goal.returns
returns c = cells_follow
