use Rattle.std.proofs.Common.{Ok, Err, subst, sym}
use Rattle.gaz_stored.specs.Migrating.{MigratesOpened, StopsMoving}
use Rattle.gaz_stored.proofs.Moving.{migrates_opened, stops_moving}
use Rattle.gaz_stored.proofs.migrating.migrate_opened.Goals as goal

pub returns-in-Ok-clause-migrates : goal.returns-in-Ok-clause-migrates
returns-in-Ok-clause-migrates g c =
    let ensures = c.in-Ok.ensures in
    subst (λ told. MigratesOpened g.S.Store c.args.register.now c.args.conn c.into_connection.result told) (sym c.told_of.ensures)
    (migrates_opened g.S.Store c.args.register.now c.args.conn c.in-Ok.store c.into_connection.result (sym c.into_connection.ensures.conn) ensures.lacking ensures.moved ensures.told ensures.told_first ensures.untouched ensures.leaves
    c.is_first-first.result c.is_first-first.ensures)

pub returns-in-Ok-clause-stops : goal.returns-in-Ok-clause-stops
returns-in-Ok-clause-stops g c =
    subst (λ h. StopsMoving g.S.Store c.args.register.now c.args.conn h) (sym c.into_connection.ensures.conn)
    (stops_moving g.S.Store c.args.register.now c.args.conn c.in-Ok.store.tables.conn (Ok tt) c.in-Ok.ensures.leaves)

pub returns-in-Err-clause-stops : goal.returns-in-Err-clause-stops
returns-in-Err-clause-stops g c =
    stops_moving g.S.Store c.args.register.now c.args.conn c.in-Err.conn (Err c.in-Err.refusal) c.in-Err.ensures.leaves
