-- The view is read off the settled board.
use Rattle.std.proofs.Common.{rules, refl, ap, ◌∙◌}
use Rattle.std.specs.Global.{Vec}
use Rattle.std.specs.Option.{option_map}
use Rattle.std.specs.Prelude.{ℕ}
use Rattle.gaz_extract.specs.Extracts.{extract}
use Rattle.gaz_extract.proofs.Readings.{looks_as}
use Rattle.gaz_steps.specs.Hubs.{door_of, told}
use Rattle.gaz_hub.specs.Seen.{hub_seen, kept_seen}
use Rattle.gaz_steps.specs.declared.question.Question.TheVariants.{Extract}
use Rattle.gaz_hub.proofs.Declining.{declines_question}
use Rattle.gaz_hub.proofs.Replying.{answered_door, answered_steps}
use Rattle.gaz_hub.proofs.Memory.{looks_called}
use Rattle.gaz_hub.proofs.hub.Hub.extract.Goals as goal

pub returns-clause-steps : goal.returns-clause-steps
returns-clause-steps g c =
    let hub = c.args.self.now in
    answered_steps (door_of hub.register) (Extract c.args.code c.args.volume) (option_map (λ (t : Vec ℕ). t.items)) told (record { ok = λ x. refl; err = λ r. refl }) c.in-Ok.ensures.let_in.0
    (kept_seen g.K.Shelf.seen hub.register) _ (hub.keeper, hub.waiters) (c.answered.new.keeper, c.answered.new.waiters) c.answered.result c.answered.ensures.answers
    (λ mid r called. looks_called g.K.Shelf.seen hub.register _ _ _ _ _ called (rw (← called.called.shows, ← called.called.leaves) (looks_as _ _ _ _ _ (λ x is _. is ∙ ap (λ (p : ℕ × ℕ). extract (g.K.Shelf.seen called.called.shown.now).content.board p.0 p.1) c.in-Ok.ensures.let_in.1) (search rules))))

pub returns-clause-door : goal.returns-clause-door
returns-clause-door g c =
    let hub = c.args.self.now in
    answered_door (door_of hub.register) (Extract c.args.code c.args.volume) (option_map (λ (t : Vec ℕ). t.items)) told (record { ok = λ x. refl; err = λ r. refl }) c.in-Ok.ensures.let_in.0
    (kept_seen g.K.Shelf.seen hub.register) _ (hub.keeper, hub.waiters) (c.answered.new.keeper, c.answered.new.waiters) hub.keeper c.answered.new.keeper c.answered.result c.answered.ensures.answers

pub returns-in-Err-clause-steps : goal.returns-in-Err-clause-steps
returns-in-Err-clause-steps g c =
    let hub = c.args.self.now in
    declines_question (door_of hub.register) (hub_seen g.K.Shelf.seen hub) (Extract c.args.code c.args.volume) c.in-Err.why c.in-Err.ensures.refused c.requires.idle
