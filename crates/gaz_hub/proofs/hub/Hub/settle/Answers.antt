-- All is settled, and nothing is read.
use Rattle.std.proofs.Common.{◌≡◌, ap, refl, rules}
use Rattle.gaz_keeper.specs.Keeper.{Content}
use Rattle.gaz_steps.specs.Hubs.{door_of, state_of}
use Rattle.gaz_hub.specs.Seen.{hub_seen, kept_seen}
use Rattle.gaz_steps.specs.Standing.{NothingReady}
use Rattle.gaz_steps.specs.Step.{answer_to}
use Rattle.gaz_steps.specs.declared.question.Question.TheVariants.{Settle}
use Rattle.gaz_steps.proofs.Looks.{looks_still}
use Rattle.gaz_hub.proofs.Memory.{looks_called}
use Rattle.gaz_hub.proofs.Replying.{door_read, steps_read}
use Rattle.gaz_hub.proofs.Telling.{tells_settled}
use Rattle.gaz_hub.proofs.hub.Hub.settle.Goals as goal

pub returns-clause-steps : goal.returns-clause-steps
returns-clause-steps g c =
    let hub = c.args.self.now in
    let d = door_of hub.register in
    let IsTold = λ (k : Content) (done : Unit {0}). NothingReady k.files k.board → tt ≡ answer_to Settle d.register (state_of k) in
    steps_read d Settle (λ (done : Unit {0}). tt) (λ r. r) (record { ok = λ x. refl; err = λ r. refl }) refl (hub_seen g.K.Shelf.seen hub)
    (kept_seen g.K.Shelf.seen hub.register (c.settled.new.keeper, c.settled.new.waiters)) c.settled.result c.settled.ensures.open
    (tells_settled d (kept_seen g.K.Shelf.seen hub.register) _ (hub.keeper, hub.waiters) (c.settled.new.keeper, c.settled.new.waiters) c.settled.result IsTold c.settled.ensures.calls
    (λ mid called. looks_called g.K.Shelf.seen hub.register _ _ _ _ _ called (rw (← called.called.shows, ← called.called.leaves) (looks_still (g.K.Shelf.seen called.called.shown.now) (g.K.Shelf.seen called.called.left.now) _ tt _ (ap g.K.Shelf.seen (search rules)) (search rules) (λ closed. refl)))))

pub returns-clause-door : goal.returns-clause-door
returns-clause-door g c =
    door_read (door_of c.args.self.now.register) Settle (λ (done : Unit {0}). tt) (λ r. r) (record { ok = λ x. refl; err = λ r. refl }) refl c.args.self.now.keeper c.settled.new.keeper c.settled.result
