use Rattle.gaz_cells.proofs.CellsBack.{cells_back, cells_fit}
use Rattle.gaz_cells.proofs.laws.cells_read_back.Goals as goal

pub returns : goal.returns
returns c = let back = c.items_read_back.ensures in record { fits = cells_fit back; back = λ x h entry. cells_back x entry (back x h).1 }
