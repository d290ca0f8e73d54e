-- The working view is the last one, of which all that is known is so.
use Rattle.std.proofs.Common.{◌≡◌, ◌∙◌, ap, subst, sym}
use Rattle.gaz_views.specs.Accounts.{Account, last_of}
use Rattle.gaz_ledger.specs.Properties.{AreSo}
use Rattle.gaz_ledger.proofs.cached_ledger.CachedLedger.undo.Goals as goal

pub invariant_of-self : goal.invariant_of-self
invariant_of-self c =
    let last : last_of c.undo.new.self ≡ last_of c.self.inside.ledger = ap last_of c.undo.ensures in
    let working : c.undo.new.self.working ≡ last_of c.undo.new.self = ap (λ (a : Account). a.working) c.undo.ensures ∙ sym last in
    let so = c.learn_all.ensures (subst (AreSo c.self.inside.known) (sym last) c.self.invariant.0) in
    (so, subst (AreSo c.learn_all.new.known) (sym working) so)
