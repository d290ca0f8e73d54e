use Rattle.std.proofs.Common.{◌∙◌, refl, sym}
use Rattle.gaz_mirror.proofs.Changing.{in_step_ended, no_fault}
use Rattle.gaz_mirror.proofs.mirror.Mirror.abandon_both.Goals as goal

pub invariant_of-self : goal.invariant_of-self
invariant_of-self g c =
    let ok = sym c.is_ok.ensures.value ∙ c.if-is_ok.true in
    let ok' = sym c.is_ok-2.ensures.value ∙ c.if-is_ok-2.true in
    let low = g.L.Shelf.seen c.abandon-done.new.self in
    record {
      in_step = λ _. in_step_ended g.U.Shelf.seen low.progress c.abandon.new.self c.abandon-done.result c.abandon.result ok ok' c.abandon-done.ensures.on c.abandon.ensures.on;
      at_hand = λ x is. refl;
      ahead = λ x is u there. cc (c.requires.settled);
    }

pub returns-clause-drops : goal.returns-clause-drops
returns-clause-drops g c = no_fault _ c.abandon-done.result (sym c.is_ok.ensures.value ∙ c.if-is_ok.true)
