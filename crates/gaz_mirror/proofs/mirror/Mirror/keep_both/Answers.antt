use Rattle.std.proofs.Common.{ap, ◌∙◌, refl, sym}
use Rattle.std.specs.Prelude.{⊤, Some}
use Rattle.gaz_keeper.specs.Keeper.{Content, Idle, after_keep}
use Rattle.gaz_mirror.proofs.Changing.{goes_both, goes_settled, in_step_ended, no_fault}
use Rattle.gaz_mirror.proofs.mirror.Mirror.keep_both.Goals as goal

pub returns-clause-keeps : goal.returns-clause-keeps
returns-clause-keeps g c =
    let m = c.args.self.now in
    let below = g.L.Shelf.seen m.lower in
    let above = g.U.Shelf.seen c.in-Some.upper in
    let new = g.L.Shelf.seen c.keep-done.new.self in
    goes_settled g.U.Shelf.seen below new m.upper (Some c.keep.new.self) m.gathered c.keep-done.result (λ _. ⊤) after_keep (λ (k : Content). Some k) (λ _. Idle) c.requires.settled
    (goes_both g.U.Shelf.seen g.met.U.Unshared.never_harmed below new m.upper c.in-Some.upper c.keep.new.self c.keep-done.result c.keep.result _ _
    (after_keep below.progress below.content) (after_keep above.progress above.content) _ _ _ _ c.in-Some.is (cc) (cc) c.keep-done.ensures.keeps c.keep.ensures.keeps
    (λ _ _. tt) (λ same. ap (after_keep above.progress) same ∙ ap (λ p. after_keep p below.content) (m.in_step c.requires.settled c.in-Some.upper c.in-Some.is).same))

pub invariant_of-self : goal.invariant_of-self
invariant_of-self g c =
    let ok = sym c.is_ok.ensures.value ∙ c.if-is_ok.true in
    let ok' = sym c.is_ok-2.ensures.value ∙ c.if-is_ok-2.true in
    let low = g.L.Shelf.seen c.keep-done.new.self in
    record {
      in_step = λ _. in_step_ended g.U.Shelf.seen low.progress c.keep.new.self c.keep-done.result c.keep.result ok ok' c.keep-done.ensures.keeps.on c.keep.ensures.keeps.on;
      at_hand = λ x is. refl;
      ahead = λ x is u there. cc (c.requires.settled);
    }

pub returns-clause-drops : goal.returns-clause-drops
returns-clause-drops g c = no_fault _ c.keep-done.result (sym c.is_ok.ensures.value ∙ c.if-is_ok.true)
