use Rattle.sqlite.specs.Held.{state}
use Rattle.gaz_tables.proofs.Four.{four_still}
use Rattle.gaz_tables.proofs.Moving.{moves}
use Rattle.gaz_tables.proofs.Steps.{clean_before, inside_done, inside_failed, inside_then}
use Rattle.gaz_tables.specs.Schema.{version2}
use Rattle.gaz_tables.proofs.migrating.move_rows.Goals as goal

pub returns-in_err-copy_rows-clause-inside : goal.returns-in_err-copy_rows-clause-inside
returns-in_err-copy_rows-clause-inside g c = inside_failed g.S.Store _ _ c.copy_rows.result c.from_residual.result c.from_residual.ensures.0 c.copy_rows.ensures.inside

pub returns-in_err-empty_rows-clause-inside : goal.returns-in_err-empty_rows-clause-inside
returns-in_err-empty_rows-clause-inside g c =
    inside_failed g.S.Store _ _ c.empty_rows.result c.from_residual-in_err-empty_rows.result c.from_residual-in_err-empty_rows.ensures.0 (inside_then g.S.Store _ _ _ _ _ c.in_ok-copy_rows.ensures.inside c.empty_rows.ensures.inside)

pub returns-clause-inside : goal.returns-clause-inside
returns-clause-inside g c = inside_done g.S.Store _ _ _ _ (inside_then g.S.Store _ _ _ _ _ c.in_ok-copy_rows.ensures.inside c.in_ok-empty_rows.ensures.inside)

pub returns-clause-moved : goal.returns-clause-moved
returns-clause-moved g c clean has none =
    let one = c.in_ok-copy_rows.ensures in
    let two = c.in_ok-empty_rows.ensures in
    let old = (state g.S.Store c.args.tx.now.conn.now).now in
    let mid = (state g.S.Store c.copy_rows.new.tx.conn.now).now in
    let copied = (one.copied (clean_before g.S.Store _ _ _ _ _ one.inside two.inside clean) has).0 in
    let still = four_still version2 _ old mid has has.tables.there.versions copied in
    moves old mid (state g.S.Store c.empty_rows.new.tx.conn.now).now has none copied (two.emptied clean still).0
