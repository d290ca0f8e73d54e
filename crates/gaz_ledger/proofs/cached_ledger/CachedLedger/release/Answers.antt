-- What is known still is untouched by the BLPU that goes.
use Rattle.std.proofs.Common.{◌≡◌, ◌∙◌, false, subst, sym, true}
use Rattle.std.specs.Prelude.{None}
use Rattle.gaz_records.specs.declared.key.Key.TheVariants.{Blpu}
use Rattle.gaz_views.specs.Accounts.{Account, last_of}
use Rattle.gaz_views.specs.View.{with_release}
use Rattle.gaz_ledger.proofs.Known.{fewer, others_taken, still_so, unmarked_taken}
use Rattle.gaz_ledger.specs.Properties.{AreSo}
use Rattle.gaz_ledger.proofs.cached_ledger.CachedLedger.release.Goals as goal

pub invariant_of-self-2 : goal.invariant_of-self-2
invariant_of-self-2 c =
    let old = c.self.inside.known in
    let new = c.forget_changed.new.known in
    let v = c.self.inside.ledger.working in
    let key = Blpu c.args.uprn in
    let last = fewer old new (last_of c.self.inside.ledger) c.forget_changed.ensures.same c.self.invariant.0 in
    let now = still_so v (with_release v c.args.uprn c.args.to c.args.hop) key (others_taken v key) old new c.in_ok-was.was' (None, None) c.in_ok-was.ensures.marks (λ m at. let none : false ≡ true = sym (unmarked_taken v key m) ∙ at in cc)
    c.forget_changed.ensures.same c.forget_changed.ensures.blpu c.forget_changed.ensures.was c.forget_changed.ensures.comes c.self.invariant.1 in
    subst (λ (a : Account). AreSo new (last_of a) × AreSo new a.working) (sym c.in_ok-was.ensures.ok) (last, now)
