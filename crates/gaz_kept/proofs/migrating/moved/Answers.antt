use Rattle.sqlite.specs.Held.{state}
use Rattle.gaz_kept.proofs.Moved.{clean_before, leaves_now, moved_now, on_ok_of}
use Rattle.gaz_kept.proofs.migrating.moved.Goals as goal

pub returns-in-Ok-clause-moved : goal.returns-in-Ok-clause-moved
returns-in-Ok-clause-moved g c clean has =
    let early = clean_before (state g.S.Store c.probe.new.conn) (state g.S.Store c.migrate.new.conn) _ _ c.in-Ok.ensures.leaves clean in
    moved_now (state g.S.Store c.args.conn.now) (state g.S.Store c.probe.new.conn) (state g.S.Store c.migrate.new.conn)
    (on_ok_of c.probe.result _ c.if-is_err.ensures.value (c.probe.ensures.stays early)) c.args.text.now (c.in-Ok.ensures.migrated clean) has

pub returns-in-Ok-clause-leaves : goal.returns-in-Ok-clause-leaves
returns-in-Ok-clause-leaves g c =
    leaves_now (state g.S.Store c.args.conn.now) (state g.S.Store c.probe.new.conn) (state g.S.Store c.migrate.new.conn)
    (λ early. on_ok_of c.probe.result _ c.if-is_err.ensures.value (c.probe.ensures.stays early)) c.args.text.now c.probe.ensures.leaves c.in-Ok.ensures.leaves

pub returns-in-Err-clause-leaves : goal.returns-in-Err-clause-leaves
returns-in-Err-clause-leaves g c =
    leaves_now (state g.S.Store c.args.conn.now) (state g.S.Store c.probe.new.conn) (state g.S.Store c.migrate.new.conn)
    (λ early. on_ok_of c.probe.result _ c.if-is_err.ensures.value (c.probe.ensures.stays early)) c.args.text.now c.probe.ensures.leaves c.in-Err.ensures.leaves
