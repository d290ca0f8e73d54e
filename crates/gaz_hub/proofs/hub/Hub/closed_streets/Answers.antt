-- The list is read off the settled board.
use Rattle.std.proofs.Common.{rules, refl}
use Rattle.std.specs.Global.{Vec}
use Rattle.gaz_extract.specs.declared.closed.Closed.{Closed}
use Rattle.gaz_extract.proofs.Readings.{looks_as}
use Rattle.gaz_steps.specs.Hubs.{door_of, told_all}
use Rattle.gaz_hub.specs.Seen.{kept_seen}
use Rattle.gaz_steps.specs.declared.question.Question.TheVariants.{ListClosed}
use Rattle.gaz_hub.proofs.Replying.{answered_door, answered_steps}
use Rattle.gaz_hub.proofs.Memory.{looks_called}
use Rattle.gaz_hub.proofs.hub.Hub.closed_streets.Goals as goal

pub returns-clause-steps : goal.returns-clause-steps
returns-clause-steps g c =
    let hub = c.args.self.now in
    answered_steps (door_of hub.register) ListClosed (λ (x : Vec Closed). x.items) told_all (record { ok = λ x. refl; err = λ r. refl }) refl
    (kept_seen g.K.Shelf.seen hub.register) _ (hub.keeper, hub.waiters) (c.answered.new.keeper, c.answered.new.waiters) c.answered.result c.answered.ensures.answers
    (λ mid r called. looks_called g.K.Shelf.seen hub.register _ _ _ _ _ called (rw (← called.called.shows, ← called.called.leaves) (looks_as _ _ _ _ _ (λ x is _. is) (search rules))))

pub returns-clause-door : goal.returns-clause-door
returns-clause-door g c =
    let hub = c.args.self.now in
    answered_door (door_of hub.register) ListClosed (λ (x : Vec Closed). x.items) told_all (record { ok = λ x. refl; err = λ r. refl }) refl
    (kept_seen g.K.Shelf.seen hub.register) _ (hub.keeper, hub.waiters) (c.answered.new.keeper, c.answered.new.waiters) hub.keeper c.answered.new.keeper c.answered.result c.answered.ensures.answers
