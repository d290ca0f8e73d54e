-- A new file is taken in after what was there is settled.
use Rattle.std.proofs.Common.{subst}
use Rattle.gaz_hub.specs.Asked.{TakesIn}
use Rattle.gaz_steps.specs.Hubs.{door_of}
use Rattle.gaz_hub.specs.Seen.{hub_seen}
use Rattle.gaz_register.specs.Registers.{RegisterValue}
use Rattle.gaz_hub.proofs.AnswerSteps.{answered_before, taken_in, unsettled_before}
use Rattle.gaz_hub.proofs.hub.Hub.submit_let_in.Goals as goal

pub returns-in-Ok-None-clause-steps : goal.returns-in-Ok-None-clause-steps
returns-in-Ok-None-clause-steps g c =
    let mid = hub_seen g.K.Shelf.seen c.settle_and_answer.new.self in
    let last = hub_seen g.K.Shelf.seen c.take_in.new.self in
    taken_in (door_of c.args.self.now.register) (hub_seen g.K.Shelf.seen c.args.self.now) mid last
    c.args.code c.args.volume c.args.file.now c.take_in.result c.requires.let_in (rw c.in-Ok-None.field-0-is at c.in-Ok-None.ensures.tells)
    (subst (λ (r : RegisterValue). TakesIn (door_of r) mid last c.args.code c.args.volume c.args.file.now c.take_in.result) c.in-Ok-None.ensures.register c.take_in.ensures.takes_in) c.take_in.ensures.past_door

pub returns-in-Err-clause-steps : goal.returns-in-Err-clause-steps
returns-in-Err-clause-steps g c =
    unsettled_before (door_of c.args.self.now.register) (hub_seen g.K.Shelf.seen c.args.self.now) (hub_seen g.K.Shelf.seen c.settle_and_answer.new.self)
    c.args.code c.args.volume c.args.file.now c.in-Err.fault _ c.requires.let_in c.in-Err.ensures.tells

pub returns-in-Ok-Some-clause-steps : goal.returns-in-Ok-Some-clause-steps
returns-in-Ok-Some-clause-steps g c =
    answered_before (door_of c.args.self.now.register) (hub_seen g.K.Shelf.seen c.args.self.now) (hub_seen g.K.Shelf.seen c.settle_and_answer.new.self)
    c.args.code c.args.volume c.args.file.now c.in-Ok-Some.answer c.requires.let_in (rw c.in-Ok-Some.field-0-is at c.in-Ok-Some.ensures.tells) c.in-Ok-Some.ensures.open (rw c.in-Ok-Some.field-0-is at c.in-Ok-Some.ensures.of_before)
