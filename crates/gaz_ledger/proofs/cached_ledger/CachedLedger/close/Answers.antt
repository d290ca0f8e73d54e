-- The view that was the working one is the last one too.
use Rattle.std.proofs.Common.{◌≡◌, ◌∙◌, ap, subst, sym}
use Rattle.gaz_views.specs.Accounts.{Account, last_of}
use Rattle.gaz_ledger.proofs.Known.{last_judged}
use Rattle.gaz_ledger.specs.Properties.{AreSo}
use Rattle.gaz_ledger.proofs.cached_ledger.CachedLedger.close.Goals as goal

pub learn_all-requires : goal.learn_all-requires
learn_all-requires c =
    ap last_of c.in_ok-close.ensures.ok ∙ last_judged c.self.inside.ledger.judged c.args.verdict c.self.inside.ledger.working ∙ sym (ap (λ (a : Account). a.working) c.in_ok-close.ensures.ok)

pub invariant_of-self-2 : goal.invariant_of-self-2
invariant_of-self-2 c =
    let last : last_of c.close.new.self ≡ c.self.inside.ledger.working = ap last_of c.in_ok-close.ensures.ok ∙ last_judged c.self.inside.ledger.judged c.args.verdict c.self.inside.ledger.working in
    let working : c.close.new.self.working ≡ last_of c.close.new.self = ap (λ (a : Account). a.working) c.in_ok-close.ensures.ok ∙ sym last in
    let so = c.learn_all.ensures (subst (AreSo c.self.inside.known) (sym last) c.self.invariant.1) in
    (so, subst (AreSo c.learn_all.new.known) (sym working) so)
