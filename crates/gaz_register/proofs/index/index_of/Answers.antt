use Rattle.std.proofs.Common.{inr, refl}
use Rattle.gaz_register.proofs.Registered.{overlaps, rises-disjoint}
use Rattle.gaz_register.proofs.index.index_of.Goals as goal

pub returns-then-not-rises-clause-overlap : goal.returns-then-not-rises-clause-overlap
returns-then-not-rises-clause-overlap c =
    let made = c.in_ok-holdings.ensures in
    inr (
      refl,
      overlaps c.args.kind c.args.custodians.now c.in_ok-holdings.holdings.items c.requires made.same made.sorted (λ up.
          let t = c.rises.ensures.1 (rw c.deref.ensures.value up) in
          cc (rw c.if-not-rises.true at t)),
    )

pub returns-clause-disjoint : goal.returns-clause-disjoint
returns-clause-disjoint c =
    rises-disjoint c.args.kind c.args.custodians.now c.in_ok-holdings.holdings.items c.requires c.in_ok-holdings.ensures.same
    (rw c.deref.ensures.value at (c.rises.ensures.0 c.if-not-rises.false))
