-- The standing is read off the settled board.
use Rattle.std.proofs.Common.{◌≡◌, rules, refl, ap, ◌∙◌, cond, not, Some, None}
use Rattle.gaz_register.specs.Registers.{knows}
use Rattle.gaz_extract.proofs.Readings.{looks_as}
use Rattle.gaz_waiters.specs.Remembered.{known_in}
use Rattle.gaz_steps.specs.Hubs.{door_of}
use Rattle.gaz_steps.specs.Outcomes.{status}
use Rattle.gaz_hub.specs.Seen.{hub_seen, kept_seen}
use Rattle.gaz_steps.specs.Standing.{NothingReady}
use Rattle.gaz_hub.specs.Waiting.{IsSo}
use Rattle.gaz_steps.specs.declared.question.Question.TheVariants.{Stand}
use Rattle.gaz_steps.specs.declared.refusal.DoorRefusal.TheVariants as at_door
use Rattle.gaz_hub.proofs.Declining.{declines_question}
use Rattle.gaz_hub.proofs.Replying.{answered_door, answered_steps}
use Rattle.gaz_hub.proofs.Memory.{looks_knowing}
use Rattle.gaz_hub.proofs.hub.Hub.status.Goals as goal

pub returns-clause-steps : goal.returns-clause-steps
returns-clause-steps g c =
    let hub = c.args.self.now in
    answered_steps (door_of hub.register) (Stand c.args.code) (λ x. x) (λ r. r) (record { ok = λ x. refl; err = λ r. refl }) (ap (λ b. cond (not b) (Some at_door.UnknownCustodian) None) c.in-Ok.ensures.known.1)
    (kept_seen g.K.Shelf.seen hub.register) _ (hub.keeper, hub.waiters) (c.answered_knowing.new.keeper, c.answered_knowing.new.waiters) c.answered_knowing.result c.answered_knowing.ensures.answers
    (λ mid r called. looks_knowing g.K.Shelf.seen hub.register _ _ _ _ c.in-Ok.custodian
    (λ x. NothingReady (g.K.Shelf.seen mid.0).content.files (g.K.Shelf.seen mid.0).content.board → x ≡ status (g.K.Shelf.seen mid.0).content.files (g.K.Shelf.seen mid.0).content.board c.args.code)
    (ap (knows hub.register) c.in-Ok.ensures.known.0 ∙ c.in-Ok.ensures.known.1) called
    (rw (← called.called.shows, ← called.called.leaves) (looks_as _ _ _
    (λ x. IsSo (g.K.Shelf.seen called.called.shown.now).content.files (g.K.Shelf.seen called.called.shown.now).content.board c.in-Ok.custodian (known_in mid.1 c.in-Ok.custodian)
    → x ≡ status (g.K.Shelf.seen called.called.shown.now).content.files (g.K.Shelf.seen called.called.shown.now).content.board c.in-Ok.custodian)
    _ (λ x is so closed. is so ∙ ap (status (g.K.Shelf.seen called.called.shown.now).content.files (g.K.Shelf.seen called.called.shown.now).content.board) c.in-Ok.ensures.known.0) (search rules))))

pub returns-clause-door : goal.returns-clause-door
returns-clause-door g c =
    let hub = c.args.self.now in
    answered_door (door_of hub.register) (Stand c.args.code) (λ x. x) (λ r. r) (record { ok = λ x. refl; err = λ r. refl }) (ap (λ b. cond (not b) (Some at_door.UnknownCustodian) None) c.in-Ok.ensures.known.1)
    (kept_seen g.K.Shelf.seen hub.register) _ (hub.keeper, hub.waiters) (c.answered_knowing.new.keeper, c.answered_knowing.new.waiters) hub.keeper c.answered_knowing.new.keeper c.answered_knowing.result c.answered_knowing.ensures.answers

pub returns-in-Err-clause-steps : goal.returns-in-Err-clause-steps
returns-in-Err-clause-steps g c =
    let hub = c.args.self.now in
    rw c.in-Err.ensures.refused.0
    (declines_question (door_of hub.register) (hub_seen g.K.Shelf.seen hub) (Stand c.args.code) at_door.UnknownCustodian
    (ap (λ b. cond (not b) (Some at_door.UnknownCustodian) None) c.in-Err.ensures.refused.1) c.requires.idle)
