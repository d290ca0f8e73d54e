use Rattle.sqlite.specs.Held.{state}
use Rattle.gaz_tables.proofs.Staying.{stays}
use Rattle.gaz_tables.proofs.Steps.{clean_before}
use Rattle.gaz_tables.specs.Schema.{version2}
use Rattle.gaz_tables.specs.Stores.{ChangesTable}
use Rattle.gaz_kept.specs.Keeping.{WritesAll}
use Rattle.gaz_kept.proofs.keeping.write_volume.Goals as goal

pub returns-clause-written : goal.returns-clause-written
returns-clause-written g c clean has =
    let old = (state g.S.Store c.args.tx.now.conn.now).now in
    let mid = (state g.S.Store c.write_rows.new.tx.conn.now).now in
    let one = c.in_ok-write_rows.ensures in
    let two = c.in_ok-mark_applied.ensures in
    let rows : ChangesTable version2 (WritesAll c.args.code c.args.volume c.args.changes.now) old mid =
    one.written (clean_before g.S.Store c.args.tx.now.conn.now c.write_rows.new.tx.conn.now c.mark_applied.new.tx.conn.now _ _ one.inside two.inside clean) has
    in
    record {
      between = mid;
      rows = rows;
      mark = (two.applied clean (stays version2 (WritesAll c.args.code c.args.volume c.args.changes.now) old mid has.there.versions rows has).0).0;
    }
