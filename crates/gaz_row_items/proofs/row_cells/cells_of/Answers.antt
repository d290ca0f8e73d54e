use Rattle.std.proofs.Common.{subst}
use Rattle.gaz_cells.specs.Columns.{CellsValue}
use Rattle.gaz_row_items.specs.Cells.{HasCells}
use Rattle.gaz_row_items.proofs.row_cells.cells_of.Goals as goal

pub returns : goal.returns
returns c = subst (λ (d : CellsValue). HasCells d 0 c.with_hop.result) c.in_ok-cells.ensures.cells c.with_hop.ensures
