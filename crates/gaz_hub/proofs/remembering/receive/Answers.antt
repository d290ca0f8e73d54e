-- A file came.
use Rattle.gaz_hub.proofs.Memory.{enters_kept}
use Rattle.gaz_hub.proofs.remembering.receive.Goals as goal

pub returns-in-Ok-clause-enters : goal.returns-in-Ok-clause-enters
returns-in-Ok-clause-enters g c =
    rw c.in-Ok.is
    (enters_kept c.args.register.now c.args.waiters.now c.remember_coming.new.waiters (g.K.Shelf.seen c.args.keeper.now) (g.K.Shelf.seen c.receive-received.new.self)
    c.args.code c.args.volume c.args.file.now c.in-Ok.field-0 c.remember_coming.ensures (rw c.in-Ok.is at c.receive-received.ensures.enters))
