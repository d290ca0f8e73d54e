-- How a walk ends, and its next visit.
use Rattle.std.proofs.Common.{◌≡◌, ◌≤◌, ◌<◌, ◌+◌, ◌-◌, ◌^◌, Some, None, sym, ap, ◌∙◌, subst, arith, length, length-append, is_some, refl}
use Rattle.std.specs.BTreeMap as tree
use Rattle.std.specs.Ordering.{nat_cmp}
use Rattle.gaz_end_rules.specs.Rings.{IsKnown, visit_of}
use Rattle.gaz_end_rules.specs.EndRules.{ancestor, parent_of}
use Rattle.gaz_keeper.specs.Keeper.{IsLeft}
use Rattle.gaz_keeper.proofs.Keeping.{keeps_then, still_open}
use Rattle.gaz_end_rules.proofs.Progress.{not_broken}
use Rattle.gaz_end_rules.proofs.Walks.{Walk, ends_known, ends_ring, ends_top, no_walk, one_more, visited_as, first_seen, first_of_many}
use Rattle.gaz_end_rules.proofs.rings.walk.Goals as goal

pub returns-then-visit-start : goal.returns-then-visit-start
returns-then-visit-start g c =
    let inv = c.up.invariant in
    let stamp : visit_of c.up.walked c.up.at ≡ Some c.in-Some.visit = sym c.visit_of.ensures ∙ c.in-Some.is in
    record {
      keeps = inv.keeps;
      right = λ stood fine known. (
        ends_known _ _ _ _ _ _ _ _ _ known (inv.visits stood fine) (inv.here stood fine) stamp (omega arith),
        first_seen _ _ _ _ _ _ _ _ _ (inv.visits stood fine) (inv.here stood fine) stamp,
      );
      cleared = not_broken _ c.args.code inv.open_for;
      counts = record { kept = inv.counted; store = tt; trust = inv.trust };
    }

pub returns-in-Some : goal.returns-in-Some
returns-in-Some g c =
    let inv = c.up.invariant in
    let closed = c.close_ring.ensures in
    let stamp : visit_of c.up.walked c.up.at ≡ Some c.in-Some.visit = sym c.visit_of.ensures ∙ c.in-Some.is in
    let late : length c.args.walked.now.on_ring.items ≤ c.in-Some.visit = omega arith in
    let same : visit_of c.close_ring.new.self ≡ visit_of c.up.walked = ap (λ m x. tree.get nat_cmp m x) closed.visits in
    record {
      keeps = inv.keeps;
      right = λ stood fine known. (
        subst (λ s. IsKnown (g.K.Shelf.seen c.args.keeper.now).content.working s c.close_ring.new.self.on_ring.items) (sym same)
            (ends_ring _ _ _ _ _ c.up.walked.on_ring.items c.close_ring.new.self.on_ring.items _ _ _ known (inv.visits stood fine) (inv.here stood fine) stamp late closed.before closed.after),
        ap (λ s. is_some (s c.args.uprn)) same ∙ first_seen _ _ _ _ _ _ _ _ _ (inv.visits stood fine) (inv.here stood fine) stamp,
      );
      cleared = not_broken _ c.args.code inv.open_for;
      counts = record { kept = inv.counted; store = tt; trust = inv.trust };
    }

pub returns-in_default-2 : goal.returns-in_default-2
returns-in_default-2 g c =
    let inv = c.up.invariant in
    let up = c.in_ok-parent.ensures in
    let was = g.K.Shelf.seen c.args.keeper.now in
    let now = g.K.Shelf.seen c.parent_of.new.keeper in
    let free : visit_of c.up.walked c.up.at ≡ None = sym c.visit_of.ensures ∙ c.in_default.is in
    let visits = λ (stood : was.stands) (fine : now.unharmed). visited_as _ _ _ _ _ _ _ _ (visit_of c.visit.new.self) c.visit.new.self.on_ring.items (inv.visits stood (up.keeps.harm fine)) (inv.here stood (up.keeps.harm fine)) free c.in_ok-visit.ensures.visits c.in_ok-visit.ensures.on_ring in
    record {
      keeps = keeps_then _ _ _ inv.keeps up.keeps;
      right = λ stood fine known.
          let mid = up.keeps.harm fine in
          let parent : c.in_ok-parent.field-0 ≡ parent_of was.content.working c.up.at = up.right (inv.keeps.stands stood mid) fine ∙ ap (λ k. parent_of k.working c.up.at) (inv.keeps.content stood mid) in (
            ends_top _ _ _ _ _ _ _ known (visits stood fine) (one_more was.content.working _ _ _ (inv.here stood mid) ∙ sym parent ∙ c.in_default-2.is),
            first_of_many _ _ _ _ _ _ _ (visits stood fine),
          );
      cleared = up.cleared;
      counts = record { kept = let a = inv.counted in let b = up.counts.kept in omega arith; store = tt; trust = λ t. inv.trust (up.counts.trust t) };
    }

pub up-init : goal.up-init
up-init g c =
    let was = g.K.Shelf.seen c.args.keeper.now in
    let old = c.args.walked.now.on_ring.items in
    let none : length old - length old ≡ 0 = omega arith in
    record {
      keeps = record { harm = λ f. f; stands = λ s f. s; content = λ s f. refl; progress = subst (λ p. IsLeft p p) (sym c.requires) refl; leaves = λ _ k left. left; whole = λ _ whole. whole };
      open_for = c.requires;
      counted = omega arith;
      trust = λ t. t;
      more = omega arith;
      here = λ stood fine. ap (λ m. ancestor was.content.working m c.args.uprn) none;
      visits = λ stood fine.
          subst (λ m. Walk was.content.working c.args.uprn (visit_of c.args.walked.now) old (visit_of c.args.walked.now) old m)
          (sym none) (no_walk _ _ _ _);
    }

pub up-preserved : goal.up-preserved
up-preserved g c =
    let inv = c.up.invariant in
    let up = c.in_ok-parent.ensures in
    let was = g.K.Shelf.seen c.args.keeper.now in
    let now = g.K.Shelf.seen c.parent_of.new.keeper in
    let free : visit_of c.up.walked c.up.at ≡ None = sym c.visit_of.ensures ∙ c.in_default.is in
    let old = c.args.walked.now.on_ring.items in
    let flags = c.up.walked.on_ring.items in
    let after = c.visit.new.self.on_ring.items in
    let grown : length after ≡ length flags + 1 = simp length-append at (ap length c.in_ok-visit.ensures.on_ring) in
    let more = inv.more in
    let turn : length after - length old ≡ length flags - length old + 1 = omega arith in
    record {
      keeps = keeps_then _ _ _ inv.keeps up.keeps;
      open_for = still_open _ _ c.args.code up.keeps inv.open_for;
      counted = let a = inv.counted in let b = up.counts.kept in omega arith;
      trust = λ t. inv.trust (up.counts.trust t);
      more = omega arith;
      here = λ stood fine.
          let mid = up.keeps.harm fine in
          let parent : c.in_ok-parent.field-0 ≡ parent_of was.content.working c.up.at = up.right (inv.keeps.stands stood mid) fine ∙ ap (λ k. parent_of k.working c.up.at) (inv.keeps.content stood mid) in
          ap (λ m. ancestor was.content.working m c.args.uprn) turn ∙ one_more was.content.working _ _ _ (inv.here stood mid) ∙ sym parent ∙ c.in-Some-2.is;
      visits = λ stood fine.
          subst (λ m. Walk was.content.working c.args.uprn (visit_of c.args.walked.now) old (visit_of c.visit.new.self) after m) (sym turn)
          (visited_as _ _ _ _ _ _ _ _ (visit_of c.visit.new.self) after (inv.visits stood (up.keeps.harm fine)) (inv.here stood (up.keeps.harm fine)) free c.in_ok-visit.ensures.visits c.in_ok-visit.ensures.on_ring);
    }

pub up-smaller : goal.up-smaller
up-smaller g c =
    let flags = c.up.walked.on_ring.items in
    let after = c.visit.new.self.on_ring.items in
    let grown : length after ≡ length flags + 1 = simp length-append at (ap length c.in_ok-visit.ensures.on_ring) in
    let room : length flags < 2 ^ 64 = c.in_ok-visit.ensures.room in
    omega arith
