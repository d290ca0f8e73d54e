-- What is known still is untouched by the item.
use Rattle.std.proofs.Common.{◌≡◌, ◌∙◌, ap, length, subst, sym}
use Rattle.gaz_records.specs.Keys.{key_of}
use Rattle.gaz_views.specs.Accounts.{Account}
use Rattle.gaz_standing.specs.Indexes.{has_mark}
use Rattle.gaz_ledger.proofs.Lives.{known_lived}
use Rattle.gaz_ledger.specs.Lives.{IsFreeFrom, IsLifeWithin}
use Rattle.gaz_ledger.specs.Properties.{is_blpu}
use Rattle.gaz_ledger.proofs.cached_ledger.CachedLedger.restore.Goals as goal

pub invariant_of-self-2 : goal.invariant_of-self-2
invariant_of-self-2 c =
    let a = c.self.inside.ledger in
    let i = c.args.item in
    let named : c.key_of-key.result ≡ key_of i = c.key_of-key.ensures ∙ ap key_of c.deref.ensures in
    let life = subst (λ (d : Account). IsLifeWithin (length d.judged) c.args.born c.args.gone) (sym c.self.view_is) c.requires.within in
    let free = subst (λ (d : Account). IsFreeFrom d c.args.born (key_of i)) (sym c.self.view_is) c.requires.free in
    known_lived c.self.inside.known c.forget_changed.new.known i c.marks_left-comes.result c.forget_changed.ensures.same (λ n p is. ap (is_blpu n) (sym named) ∙ c.forget_changed.ensures.blpu n p is) c.forget_changed.ensures.comes
    a c.restore.new.self c.args.born c.args.gone life free c.in_ok-restore.ensures.ok (λ is m has. c.marks_left-comes.ensures is m (ap (λ x. has_mark m x) c.deref-2.ensures ∙ has)) c.self.invariant
