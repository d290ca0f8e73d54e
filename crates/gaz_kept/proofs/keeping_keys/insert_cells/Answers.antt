use Rattle.std.proofs.Common.{◌≡◌, subst}
use Rattle.std.specs.String.{string_bytes}
use Rattle.sqlite.specs.Held.{state}
use Rattle.sqlite.specs.Order.{Row}
use Rattle.gaz_tables.specs.Schema.{version2}
use Rattle.gaz_tables.specs.Stores.{AddsRow, ChangesTable}
use Rattle.gaz_tables.specs.Versions.{version_values}
use Rattle.gaz_kept.proofs.keeping_keys.insert_cells.Goals as goal

pub returns-clause-added : goal.returns-clause-added
returns-clause-added g c clean has =
    let cells = c.args.cells in
    let values : Row = version_values c.number-cust.result cells.kind c.deref.result.now cells.blpu cells.street cells.lang cells.live c.number-born.result c.args.gone c.deref-2.result.now cells.hop in
    let same : values ≡ version_values c.args.code cells.kind (string_bytes cells.id) cells.blpu cells.street cells.lang cells.live c.args.born c.args.gone (string_bytes cells.body) cells.hop =
    λ i. version_values (c.number-cust.ensures.value i) cells.kind (c.deref.ensures i) cells.blpu cells.street cells.lang cells.live (c.number-born.ensures.value i) c.args.gone (c.deref-2.ensures i) cells.hop
    in
    subst (λ row. ChangesTable version2 (AddsRow row) (state g.S.Store c.args.tx.now.conn.now).now (state g.S.Store c.insert.new.tx.conn.now).now)
    same (c.in_ok-insert.ensures.added clean has).0
