-- The file is received, and all is settled.
use Rattle.gaz_steps.specs.Hubs.{door_of}
use Rattle.gaz_hub.specs.Seen.{hub_seen, kept_seen}
use Rattle.gaz_hub.proofs.AnswerSteps.{taken_new, taken_not, taken_unsettled}
use Rattle.gaz_steps.proofs.Looks.{left_not_open}
use Rattle.gaz_hub.proofs.hub.Hub.take_in.Goals as goal

pub returns-in-Ok-clause-takes_in : goal.returns-in-Ok-clause-takes_in
returns-in-Ok-clause-takes_in g c =
    let hub = c.args.self.now in
    taken_new (door_of hub.register) (hub_seen g.K.Shelf.seen hub) (kept_seen g.K.Shelf.seen hub.register (c.receive-received.new.keeper, c.receive-received.new.waiters)) (hub_seen g.K.Shelf.seen c.settle_and_tell.new.self)
    c.args.code c.args.volume c.args.file.now c.requires.let_in (rw c.in_default.is at c.receive-received.ensures.enters) c.in-Ok.told c.in-Ok.ensures.open c.in-Ok.ensures.tells

pub returns-in-Err-settle_and_tell-clause-takes_in : goal.returns-in-Err-settle_and_tell-clause-takes_in
returns-in-Err-settle_and_tell-clause-takes_in g c =
    let hub = c.args.self.now in
    taken_unsettled (door_of hub.register) (hub_seen g.K.Shelf.seen hub) (kept_seen g.K.Shelf.seen hub.register (c.receive-received.new.keeper, c.receive-received.new.waiters)) (hub_seen g.K.Shelf.seen c.settle_and_tell.new.self)
    c.args.code c.args.volume c.args.file.now c.requires.let_in (rw c.in_default.is at c.receive-received.ensures.enters) c.in-Err-settle_and_tell.fault (rw c.in_default.is at c.receive-received.ensures.open) c.in-Err-settle_and_tell.ensures.tells

pub returns-in-Err-clause-takes_in : goal.returns-in-Err-clause-takes_in
returns-in-Err-clause-takes_in g c =
    let hub = c.args.self.now in
    taken_not (door_of hub.register) (hub_seen g.K.Shelf.seen hub) (kept_seen g.K.Shelf.seen hub.register (c.receive-received.new.keeper, c.receive-received.new.waiters))
    c.args.code c.args.volume c.args.file.now c.in-Err.fault c.requires.let_in
    (left_not_open (g.K.Shelf.seen hub.keeper).progress _ c.in-Err.ensures.enters.progress c.requires.idle) c.in-Err.ensures.enters
