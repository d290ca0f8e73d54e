use Rattle.std.proofs.Common.{rules, ◌≡◌, ◌+◌, ◌∷◌, [], ℕ, ap, arith, length, length-append, subst, sym}
use Rattle.gaz_ledger.proofs.Becoming.{passing_closed}
use Rattle.gaz_ledger.proofs.Closings.{account_judged, ledger_judged}
use Rattle.gaz_ledger.proofs.TiesKept.{ties_judged}
use Rattle.gaz_ledger.specs.Custodies.{IsPassing}
use Rattle.gaz_ledger.proofs.ledger.Ledger.close.Goals as goal

pub invariant_of-self-2 : goal.invariant_of-self-2
invariant_of-self-2 c =
    let reach : c.len-reached.result ≡ length c.push.new.self.items = search rules in
    let long : length c.push.new.self.items ≡ length c.self.inside.verdicts.items + 1 = omega (arith, ap length c.in_ok-push.ensures.items, length-append c.self.inside.verdicts.items (c.args.verdict ∷ [])) in (
      ledger_judged c.self.inside.verdicts.items c.push.new.self.items c.args.verdict c.self.inside.histories c.self.inside.index c.forget_all.new.index c.self.inside.touched.items c.clear.new.self.items c.len-reached.result reach
          c.in_ok-push.ensures.items c.self.invariant.0 c.forget_all.ensures.finds c.clear.ensures.items,
      subst (λ (n : ℕ). IsPassing n c.self.inside.custodies c.clear-2.new.self.items) (sym long) (passing_closed (length c.self.inside.verdicts.items) c.self.inside.custodies c.self.inside.passed.items c.clear-2.new.self.items c.self.invariant.1),
      ties_judged c.self.inside.ties c.self.inside.histories (length c.self.inside.verdicts.items) (length c.push.new.self.items) long c.self.invariant.0.within c.self.invariant.2,
    )

pub returns-clause-ok : goal.returns-clause-ok
returns-clause-ok c =
    account_judged c.self.inside.verdicts.items c.push.new.self.items c.args.verdict c.self.inside.histories c.self.inside.custodies c.args.self.now (c.self.invariant.0.within, c.self.invariant.1.within) c.in_ok-push.ensures.items c.self.view_is
