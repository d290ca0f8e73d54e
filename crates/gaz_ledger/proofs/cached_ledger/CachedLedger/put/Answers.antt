-- What is known still is untouched by the item.
use Rattle.std.proofs.Common.{◌≡◌, ◌⊎◌, ◌∙◌, ap, subst, sym, true}
use Rattle.std.specs.Prelude.{Some}
use Rattle.gaz_records.specs.Keys.{key_of}
use Rattle.gaz_views.specs.Accounts.{Account, last_of}
use Rattle.gaz_views.specs.View.{with_item}
use Rattle.gaz_views.specs.Words.{entries}
use Rattle.gaz_standing.specs.Indexes.{has_mark, marked_at}
use Rattle.gaz_standing.specs.declared.index.Mark.{Mark}
use Rattle.gaz_ledger.proofs.Known.{fewer, marked_put, others_put, still_so}
use Rattle.gaz_ledger.specs.Properties.{AreSo, is_blpu}
use Rattle.gaz_ledger.proofs.cached_ledger.CachedLedger.put.Goals as goal

pub invariant_of-self-2 : goal.invariant_of-self-2
invariant_of-self-2 c =
    let old = c.self.inside.known in
    let new = c.forget_changed.new.known in
    let v = c.self.inside.ledger.working in
    let i = c.args.item in
    let named : c.key_of-key.result ≡ key_of i = c.key_of-key.ensures ∙ ap key_of c.deref.ensures in
    let comes : (m : Mark) → marked_at (entries (with_item v i)) m (key_of i) ≡ true → (c.marks_of-comes.result.0 ≡ Some m) ⊎ (c.marks_of-comes.result.1 ≡ Some m) = λ m at. c.marks_of-comes.ensures m (ap (λ x. has_mark m x) c.deref-2.ensures ∙ sym (marked_put v i m) ∙ at) in
    let last = fewer old new (last_of c.self.inside.ledger) c.forget_changed.ensures.same c.self.invariant.0 in
    let now = still_so v (with_item v i) (key_of i) (others_put v i) old new c.in_ok-was.was' c.marks_of-comes.result c.in_ok-was.ensures.marks comes
    c.forget_changed.ensures.same (λ n p is. ap (is_blpu n) (sym named) ∙ c.forget_changed.ensures.blpu n p is) c.forget_changed.ensures.was c.forget_changed.ensures.comes c.self.invariant.1 in
    subst (λ (a : Account). AreSo new (last_of a) × AreSo new a.working) (sym c.in_ok-was.ensures.ok) (last, now)
