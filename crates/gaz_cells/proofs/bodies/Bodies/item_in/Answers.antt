use Rattle.std.proofs.Common.{◌≡◌, ◌∙◌, Some, ap, sym}
use Rattle.gaz_records.specs.Items.{item_text}
use Rattle.gaz_cells.proofs.Fitting.{cells_say}
use Rattle.gaz_cells.specs.Reading.{kind_numbered}
use Rattle.gaz_cells.proofs.bodies.Bodies.item_in.Goals as goal

pub returns-in-Some-fitting : goal.returns-in-Some-fitting
returns-in-Some-fitting c =
    let numbered : kind_numbered c.args.row.now.kind ≡ Some c.in-Some.kind = ap (λ cells. kind_numbered cells.kind) (sym c.row.view_is) ∙ sym c.in-Some.ensures in
    let written : item_text c.in-Some-fitting.item ≡ c.args.row.now.body = c.in-Some-fitting.ensures.body ∙ ap (λ cells. cells.body) c.row.view_is in
    rw (cells_say c.args.row.now c.in-Some.kind c.in-Some-fitting.item c.known.ensures numbered c.in-Some-fitting.ensures.kind written) c.compared.ensures
