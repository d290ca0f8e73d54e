use Rattle.std.proofs.Common.{◌≡◌, ◌∙◌, ◌+◌, ap, length, subst, sym}
use Rattle.gaz_records.specs.Keys.{key_of}
use Rattle.gaz_records.specs.declared.key.Key.{Key}
use Rattle.gaz_standing.proofs.TieFacts.{ties_none}
use Rattle.gaz_standing.specs.Changing.{LivesAt}
use Rattle.gaz_ledger.proofs.Ledgers.{reached_of}
use Rattle.gaz_ledger.proofs.Lives.{account_lived, ledger_kept, ledger_lived}
use Rattle.gaz_ledger.specs.Ledgers.{Finds}
use Rattle.gaz_ledger.specs.Lives.{IsLifeWithin}
use Rattle.gaz_ledger.proofs.ledger.Ledger.restore.Goals as goal

pub live_found-requires-clause-within : goal.live_found-requires-clause-within
live_found-requires-clause-within c = subst (λ n. IsLifeWithin n c.args.born c.args.gone) (sym c.reached-reached.ensures.reached) c.requires

pub invariant_of-self : goal.invariant_of-self
invariant_of-self c =
    let ds = c.self.inside.verdicts.items in
    let g = c.self.inside.histories in
    let reach : c.reached-reached.result ≡ length ds = c.reached-reached.ensures.reached ∙ sym (reached_of ds g c.self.inside.custodies c.args.self.now c.self.view_is) in
    (ledger_kept (length ds) c.reached-reached.result g c.live_found.new.histories c.self.inside.index c.live_found.new.index c.self.inside.touched.items reach c.in_err-live_found.ensures.err c.self.invariant.0 c.in_err-live_found.ensures.finds, c.self.invariant.1, ties_none c.forget.new.self c.live_found.new.histories (length ds) (length ds + 1) c.forget.ensures)

pub invariant_of-self-2 : goal.invariant_of-self-2
invariant_of-self-2 c =
    let ds = c.self.inside.verdicts.items in
    let g = c.self.inside.histories in
    let h = c.live_found.new.histories in
    let long = reached_of ds g c.self.inside.custodies c.args.self.now c.self.view_is in
    let reach : c.reached-reached.result ≡ length ds = c.reached-reached.ensures.reached ∙ sym long in
    let life = subst (λ n. IsLifeWithin n c.args.born c.args.gone) (sym long) c.requires in
    let found = subst (λ n. Finds c.self.inside.index g n → Finds c.live_found.new.index h n) reach c.in_ok-live_found.ensures.finds c.self.invariant.0.finds in
    (ledger_lived (length ds) g h c.self.inside.index c.live_found.new.index c.self.inside.touched.items c.key_of-key.result c.args.born c.args.gone c.args.item life c.self.invariant.0 found c.in_ok-live_found.ensures.ok, c.self.invariant.1, ties_none c.forget.new.self h (length ds) (length ds + 1) c.forget.ensures)

pub returns-clause-ok : goal.returns-clause-ok
returns-clause-ok c =
    let g = c.self.inside.histories in
    let h = c.live_found.new.histories in
    let named = c.key_of-key.ensures ∙ ap key_of c.deref.ensures in
    account_lived c.self.inside.verdicts.items g h c.self.inside.custodies c.args.self.now c.args.born c.args.gone c.args.item (c.self.invariant.0.within, c.self.invariant.1.within) ((invariant_of-self-2 c).0.within, c.self.invariant.1.within) c.self.view_is c.requires
    (subst (λ (k : Key). LivesAt g h k c.args.born c.args.gone c.args.item) named c.in_ok-live_found.ensures.ok)
