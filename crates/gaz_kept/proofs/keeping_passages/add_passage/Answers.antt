use Rattle.std.proofs.Common.{subst}
use Rattle.gaz_overlay.specs.Rows.{never}
use Rattle.gaz_tables.specs.Stores.{AddsRow}
use Rattle.gaz_row_items.specs.Cells.{row_values}
use Rattle.gaz_kept.specs.Keeping.{AddsPassage}
use Rattle.gaz_kept.proofs.Writes.{writes_as}
use Rattle.gaz_kept.proofs.keeping_passages.add_passage.Goals as goal

pub returns-clause-added : goal.returns-clause-added
returns-clause-added g c =
    let same = c.in_ok-cells.ensures c.args.code c.args.volume never in
    writes_as g.S.Store c.args.tx.now.conn.now c.insert_cells.new.tx.conn.now c.insert_cells.result (AddsRow (row_values c.args.code c.args.volume never c.in_ok-cells.cells)) (AddsPassage c.args.code c.args.volume c.args.uprn c.args.custody.now)
    (λ a b adds. record { custodian = c.code_known.ensures; number = c.number_known.ensures; such = c.custody_known.ensures; row = subst (λ v. AddsRow v a b) same adds }) c.insert_cells.ensures.added
