use Rattle.sqlite.specs.Held.{state}
use Rattle.gaz_tables.proofs.Moving.{migrates, none_yet, tables_gained}
use Rattle.gaz_tables.proofs.Steps.{clean_before, inside_done, inside_failed, inside_then}
use Rattle.gaz_tables.proofs.migrating.refit.Goals as goal

pub returns-in_err-make_second-clause-inside : goal.returns-in_err-make_second-clause-inside
returns-in_err-make_second-clause-inside g c = inside_failed g.S.Store _ _ c.make_second.result c.from_residual.result c.from_residual.ensures.0 c.make_second.ensures.inside

pub returns-in_err-move_rows-clause-inside : goal.returns-in_err-move_rows-clause-inside
returns-in_err-move_rows-clause-inside g c =
    inside_failed g.S.Store _ _ c.move_rows.result c.from_residual-in_err-move_rows.result c.from_residual-in_err-move_rows.ensures.0 (inside_then g.S.Store _ _ _ _ _ c.in_ok-make_second.ensures.inside c.move_rows.ensures.inside)

pub returns-in_err-rewrite-clause-inside : goal.returns-in_err-rewrite-clause-inside
returns-in_err-rewrite-clause-inside g c =
    let two = inside_then g.S.Store _ _ _ _ _ c.in_ok-make_second.ensures.inside c.in_ok-move_rows.ensures.inside in
    inside_failed g.S.Store _ _ c.rewrite.result c.from_residual-in_err-rewrite.result c.from_residual-in_err-rewrite.ensures.0 (inside_then g.S.Store _ _ _ _ _ two c.rewrite.ensures.inside)

pub returns-clause-inside : goal.returns-clause-inside
returns-clause-inside g c =
    let two = inside_then g.S.Store _ _ _ _ _ c.in_ok-make_second.ensures.inside c.in_ok-move_rows.ensures.inside in
    inside_done g.S.Store _ _ _ _ (inside_then g.S.Store _ _ _ _ _ two c.in_ok-rewrite.ensures.inside)

pub returns-clause-migrated : goal.returns-clause-migrated
returns-clause-migrated g c clean has =
    let one = c.in_ok-make_second.ensures in
    let two = c.in_ok-move_rows.ensures in
    let three = c.in_ok-rewrite.ensures in
    let old = (state g.S.Store c.args.tx.now.conn.now).now in
    let made = (state g.S.Store c.make_second.new.tx.conn.now).now in
    let moved = (state g.S.Store c.move_rows.new.tx.conn.now).now in
    let late = clean_before g.S.Store _ _ _ _ _ (inside_then g.S.Store _ _ _ _ _ one.inside two.inside) three.inside clean in
    let early = clean_before g.S.Store _ _ _ _ _ one.inside two.inside late in
    let gains = one.made early has.room in
    let moves = two.moved late (tables_gained old made has gains) (none_yet old made has gains) in
    migrates old made has gains moved (state g.S.Store c.rewrite.new.tx.conn.now).now c.args.number c.args.register.now moves (three.rewritten clean moves.tables.tables).0
