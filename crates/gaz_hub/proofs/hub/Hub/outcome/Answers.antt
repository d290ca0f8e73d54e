-- What is told is read off the settled board.
use Rattle.std.proofs.Common.{◌≡◌, rules, refl, ap, ◌∙◌, ℕ}
use Rattle.gaz_register.specs.Registers.{knows}
use Rattle.gaz_extract.proofs.Readings.{looks_as}
use Rattle.gaz_waiters.specs.Remembered.{known_in}
use Rattle.gaz_steps.specs.Hubs.{door_of, state_of}
use Rattle.gaz_hub.specs.Seen.{hub_seen, kept_seen}
use Rattle.gaz_hub.specs.Asked.{IsToldNow}
use Rattle.gaz_steps.specs.Standing.{NothingReady}
use Rattle.gaz_hub.specs.Waiting.{IsSo}
use Rattle.gaz_steps.specs.Step.{told_of}
use Rattle.gaz_steps.specs.declared.question.Question.TheVariants.{Ask}
use Rattle.gaz_steps.proofs.Known.{known_at}
use Rattle.gaz_hub.proofs.Declining.{declines_question}
use Rattle.gaz_hub.proofs.Replying.{answered_door, answered_steps}
use Rattle.gaz_hub.proofs.Memory.{looks_knowing}
use Rattle.gaz_hub.proofs.ToldNow.{told_is}
use Rattle.gaz_hub.proofs.hub.Hub.outcome.Goals as goal

pub returns-clause-steps : goal.returns-clause-steps
returns-clause-steps g c =
    let hub = c.args.self.now in
    answered_steps (door_of hub.register) (Ask c.args.code c.args.volume) (λ x. x) (λ r. r) (record { ok = λ x. refl; err = λ r. refl }) c.in-Ok.ensures.let_in.0
    (kept_seen g.K.Shelf.seen hub.register) _ (hub.keeper, hub.waiters) (c.answered_knowing.new.keeper, c.answered_knowing.new.waiters) c.answered_knowing.result c.answered_knowing.ensures.answers
    (λ mid r called. looks_knowing g.K.Shelf.seen hub.register _ _ _ _ c.in-Ok.pair.0
    (λ x. NothingReady (g.K.Shelf.seen mid.0).content.files (g.K.Shelf.seen mid.0).content.board → x ≡ told_of (state_of (g.K.Shelf.seen mid.0).content) c.args.code c.args.volume)
    (ap (λ (p : ℕ × ℕ). knows hub.register p.0) c.in-Ok.ensures.let_in.1 ∙ known_at (knows hub.register c.args.code) _ c.in-Ok.ensures.let_in.0) called
    (rw (← called.called.shows, ← called.called.leaves) (looks_as _ _ _
    (λ x. IsSo (g.K.Shelf.seen called.called.shown.now).content.files (g.K.Shelf.seen called.called.shown.now).content.board c.in-Ok.pair.0 (known_in mid.1 c.in-Ok.pair.0)
    → IsToldNow (g.K.Shelf.seen called.called.shown.now).content.files (g.K.Shelf.seen called.called.shown.now).content.board c.in-Ok.pair.0 c.in-Ok.pair.1 x)
    _ (λ x is so closed. told_is (state_of (g.K.Shelf.seen called.called.shown.now).content) _ _ x (is so) closed ∙ ap (λ (p : ℕ × ℕ). told_of (state_of (g.K.Shelf.seen called.called.shown.now).content) p.0 p.1) c.in-Ok.ensures.let_in.1) (search rules))))

pub returns-clause-door : goal.returns-clause-door
returns-clause-door g c =
    let hub = c.args.self.now in
    answered_door (door_of hub.register) (Ask c.args.code c.args.volume) (λ x. x) (λ r. r) (record { ok = λ x. refl; err = λ r. refl }) c.in-Ok.ensures.let_in.0
    (kept_seen g.K.Shelf.seen hub.register) _ (hub.keeper, hub.waiters) (c.answered_knowing.new.keeper, c.answered_knowing.new.waiters) hub.keeper c.answered_knowing.new.keeper c.answered_knowing.result c.answered_knowing.ensures.answers

pub returns-in-Err-clause-steps : goal.returns-in-Err-clause-steps
returns-in-Err-clause-steps g c =
    let hub = c.args.self.now in
    declines_question (door_of hub.register) (hub_seen g.K.Shelf.seen hub) (Ask c.args.code c.args.volume) c.in-Err.why c.in-Err.ensures.refused c.requires.idle
