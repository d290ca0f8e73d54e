-- What is known still is untouched by the BLPU.
use Rattle.std.proofs.Common.{◌≡◌, ◌⊎◌, ◌∙◌, ap, subst, sym, true}
use Rattle.std.specs.Prelude.{Some}
use Rattle.std.specs.FinMap as finite
use Rattle.std.specs.FinMap.{FinMap}
use Rattle.gaz_records.specs.Keys.{key_cmp, key_of}
use Rattle.gaz_records.specs.declared.item.Item.{Item}
use Rattle.gaz_records.specs.declared.key.Key.{Key}
use Rattle.gaz_views.specs.Accounts.{last_of}
use Rattle.gaz_views.specs.Words.{entries}
use Rattle.gaz_standing.specs.Indexes.{has_mark, marked_at}
use Rattle.gaz_standing.specs.declared.index.Mark.{Mark}
use Rattle.gaz_ledger.proofs.Known.{fewer, marked_put, others_put, still_so}
use Rattle.gaz_ledger.proofs.Passes.{adopted_items}
use Rattle.gaz_ledger.specs.Properties.{AreSo, is_blpu}
use Rattle.gaz_ledger.proofs.cached_ledger.CachedLedger.adopt.Goals as goal

pub invariant_of-self-2 : goal.invariant_of-self-2
invariant_of-self-2 c =
    let old = c.self.inside.known in
    let new = c.forget_changed.new.known in
    let v = c.self.inside.ledger.working in
    let w = c.adopt.new.self.working in
    let i = c.args.blpu in
    let two = adopted_items c.self.inside.ledger c.adopt.new.self i c.args.from c.args.hop c.requires c.in_ok-was.ensures.ok in
    let named : c.key_of-key.result ≡ key_of i = c.key_of-key.ensures ∙ ap key_of c.deref.ensures in
    let same : (m : Mark) → marked_at (entries w) m (key_of i) ≡ has_mark m i = λ m. ap (λ (t : FinMap key_cmp Item). marked_at (finite.entries t) m (key_of i)) two.0 ∙ marked_put v i m in
    let comes : (m : Mark) → marked_at (entries w) m (key_of i) ≡ true → (c.marks_of-comes.result.0 ≡ Some m) ⊎ (c.marks_of-comes.result.1 ≡ Some m) = λ m at. c.marks_of-comes.ensures m (ap (λ x. has_mark m x) c.deref-2.ensures ∙ sym (same m) ∙ at) in
    let last = subst (AreSo new) (sym two.1) (fewer old new (last_of c.self.inside.ledger) c.forget_changed.ensures.same c.self.invariant.0) in
    let now = still_so v w (key_of i) (λ (k : Key) other. ap (λ (t : FinMap key_cmp Item). finite.get t k) two.0 ∙ others_put v i k other) old new c.in_ok-was.was' c.marks_of-comes.result c.in_ok-was.ensures.marks comes
    c.forget_changed.ensures.same (λ n p is. ap (is_blpu n) (sym named) ∙ c.forget_changed.ensures.blpu n p is) c.forget_changed.ensures.was c.forget_changed.ensures.comes c.self.invariant.1 in
    (last, now)
