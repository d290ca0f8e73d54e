use Rattle.std.proofs.Common.{subst}
use Rattle.gaz_tables.specs.Stores.{AddsRow}
use Rattle.gaz_kept.specs.Keeping.{WritesVersions}
use Rattle.gaz_kept.proofs.keeping_keys.add_row.Goals as goal

pub returns-clause-added : goal.returns-clause-added
returns-clause-added g c =
    subst (λ row. WritesVersions g.S.Store c.args.tx.now.conn.now c.insert_cells.new.tx.conn.now c.insert_cells.result (AddsRow row))
    (c.in_ok-cells.ensures c.args.code c.args.born c.args.gone) c.insert_cells.ensures.added
