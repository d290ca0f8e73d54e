use Rattle.std.proofs.Common.{◌∙◌, subst}
use Rattle.gaz_cells.specs.Custody.{CustodyValue}
use Rattle.gaz_row_items.specs.Cells.{HasCells}
use Rattle.gaz_row_items.proofs.row_cells.passage_cells.Goals as goal

pub returns : goal.returns
returns c = subst (λ (v : CustodyValue). HasCells v.cells v.hop c.with_hop.result) (c.cells.view_is ∙ c.in_ok-cells.ensures.cells) c.with_hop.ensures
