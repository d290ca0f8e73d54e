use Rattle.gaz_cells.proofs.CellsBack.{cells_say_entries}
use Rattle.gaz_cells.proofs.laws.cells_say_entries.Goals as goal

pub returns : goal.returns
returns c = cells_say_entries
