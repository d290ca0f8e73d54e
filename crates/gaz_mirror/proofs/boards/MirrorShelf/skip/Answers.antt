-- Nothing is gathered.
use Rattle.std.proofs.Common.{◌∙◌, refl, sym}
use Rattle.gaz_keeper.specs.Keeper.{Content, IsAtHand, after_skip}
use Rattle.gaz_mirror.proofs.Changing.{entered_below, entered_both, in_step_left, no_fault, settled}
use Rattle.gaz_mirror.proofs.boards.MirrorShelf.skip.Goals as goal

pub invariant_of-self-2 : goal.invariant_of-self-2
invariant_of-self-2 g c =
    let none = settled (g.L.Shelf.seen c.args.self.now.lower).progress c.args.self.now.gathered c.requires in
    record { in_step = λ _ u is. cc; at_hand = λ x is. cc; ahead = λ x _ u is. cc }

pub returns-2-clause-enters : goal.returns-2-clause-enters
returns-2-clause-enters g c =
    let m = c.args.self.now in
    entered_below g.U.Shelf.seen _ _ m.upper m.gathered _ (λ (k : Content). IsAtHand k c.args.code) (λ (k : Content). after_skip k c.args.code c.args.place c.args.rule) c.requires c.skip-done.ensures

pub returns-clause-enters : goal.returns-clause-enters
returns-clause-enters g c =
    let m = c.args.self.now in
    entered_both g.U.Shelf.seen g.met.U.Unshared.never_harmed _ _ m.upper c.in-Some.upper c.skip.new.self m.gathered c.skip-done.result c.skip.result
    (λ (k : Content). IsAtHand k c.args.code) (λ (k : Content). after_skip k c.args.code c.args.place c.args.rule) c.requires c.in-Some.is (cc) (cc) c.skip-done.ensures c.skip.ensures

pub invariant_of-self : goal.invariant_of-self
invariant_of-self g c =
    let m = c.args.self.now in
    let was = (g.L.Shelf.seen m.lower).progress in
    let low = (g.L.Shelf.seen c.skip-done.new.self).progress in
    let none = settled was m.gathered c.requires in
    record {
      in_step = λ _. in_step_left g.U.Shelf.seen was low c.in-Some.upper c.skip.new.self (m.in_step none c.in-Some.upper c.in-Some.is) c.skip-done.ensures.progress c.skip.ensures.progress;
      at_hand = λ x is. refl;
      ahead = λ x is u there. cc;
    }

pub returns-clause-drops : goal.returns-clause-drops
returns-clause-drops g c = no_fault _ c.skip-done.result (sym c.is_ok.ensures.value ∙ c.if-is_ok.true)
