-- Nothing is gathered.
use Rattle.std.proofs.Common.{◌∙◌, refl, sym}
use Rattle.gaz_keeper.specs.Keeper.{Content, IsNew, with_received}
use Rattle.gaz_mirror.proofs.Changing.{entered_below, entered_both, in_step_left, no_fault, settled}
use Rattle.gaz_mirror.proofs.files.MirrorInbox.receive.Goals as goal

pub invariant_of-self-2 : goal.invariant_of-self-2
invariant_of-self-2 g c =
    let none = settled (g.L.Shelf.seen c.args.self.now.lower).progress c.args.self.now.gathered c.requires in
    record { in_step = λ _ u is. cc; at_hand = λ x is. cc; ahead = λ x _ u is. cc }

pub returns-2-clause-enters : goal.returns-2-clause-enters
returns-2-clause-enters g c =
    let m = c.args.self.now in
    entered_below g.U.Shelf.seen _ _ m.upper m.gathered _ (λ (k : Content). IsNew k c.args.code c.args.volume) (λ (k : Content). with_received k c.args.code c.args.volume c.args.bytes.now) c.requires c.receive-done.ensures.enters

pub returns-clause-enters : goal.returns-clause-enters
returns-clause-enters g c =
    let m = c.args.self.now in
    entered_both g.U.Shelf.seen g.met.U.Unshared.never_harmed _ _ m.upper c.in-Some.upper c.receive.new.self m.gathered c.receive-done.result c.receive.result
    (λ (k : Content). IsNew k c.args.code c.args.volume) (λ (k : Content). with_received k c.args.code c.args.volume c.args.bytes.now) c.requires c.in-Some.is (cc) (cc) c.receive-done.ensures.enters c.receive.ensures.enters

pub invariant_of-self : goal.invariant_of-self
invariant_of-self g c =
    let m = c.args.self.now in
    let was = (g.L.Shelf.seen m.lower).progress in
    let low = (g.L.Shelf.seen c.receive-done.new.self).progress in
    let none = settled was m.gathered c.requires in
    record {
      in_step = λ _. in_step_left g.U.Shelf.seen was low c.in-Some.upper c.receive.new.self (m.in_step none c.in-Some.upper c.in-Some.is) c.receive-done.ensures.enters.progress c.receive.ensures.enters.progress;
      at_hand = λ x is. refl;
      ahead = λ x is u there. cc;
    }

pub returns-clause-drops : goal.returns-clause-drops
returns-clause-drops g c = no_fault _ c.receive-done.result (sym c.is_ok.ensures.value ∙ c.if-is_ok.true)
