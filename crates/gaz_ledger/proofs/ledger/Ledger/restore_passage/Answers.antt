-- What became of the number is put back, and then its key counts as used.
use Rattle.std.proofs.Common.{◌+◌, ℕ, length, subst, sym}
use Rattle.std.specs.Prelude.{None}
use Rattle.gaz_views.proofs.Outcomes.{where_err}
use Rattle.gaz_standing.proofs.TieFacts.{ties_none}
use Rattle.gaz_standing.specs.KeyHistories.{KeyHistories}
use Rattle.gaz_ledger.proofs.Ledgers.{reached_of}
use Rattle.gaz_ledger.proofs.Passages.{account_back, account_same, ledger_back, passing_back}
use Rattle.gaz_ledger.specs.Ledgers.{IsLedger}
use Rattle.gaz_ledger.specs.Lives.{IsLifeWithin}
use Rattle.gaz_ledger.proofs.ledger.Ledger.restore_passage.Goals as goal

pub invariant_of-self-in_err-set-2 : goal.invariant_of-self-in_err-set-2
invariant_of-self-in_err-set-2 c =
    let n = length c.self.inside.verdicts.items in
    let g = c.self.inside.histories in
    let h = c.set-2.new.self in
    let life = subst (λ (m : ℕ). IsLifeWithin m c.args.born None) (sym (reached_of c.self.inside.verdicts.items g c.self.inside.custodies c.args.self.now c.self.view_is)) c.requires.within in (
      subst (λ (k : KeyHistories). IsLedger n k c.self.inside.index c.self.inside.touched.items) (sym c.in_err-set-2.ensures.err) c.self.invariant.0,
      passing_back n c.self.inside.custodies c.set.new.self c.self.inside.passed.items c.args.born c.args.uprn c.args.custody life c.self.invariant.1 c.in_ok-set.ensures.ok,
      ties_none c.forget.new.self h n (n + 1) c.forget.ensures,
    )

pub returns-in_err-set-2-clause-err : goal.returns-in_err-set-2-clause-err
returns-in_err-set-2-clause-err c =
    let after = invariant_of-self-in_err-set-2 c in
    where_err c.from_residual-in_err-set-2.result
    (account_same c.self.inside.verdicts.items c.self.inside.histories c.set-2.new.self c.self.inside.custodies c.set.new.self c.args.self.now c.args.born c.args.uprn c.args.custody (c.self.invariant.0.within, c.self.invariant.1.within) (after.0.within, after.1.within) c.self.view_is c.in_err-set-2.ensures.err)

pub invariant_of-self-2 : goal.invariant_of-self-2
invariant_of-self-2 c =
    let n = length c.self.inside.verdicts.items in
    let g = c.self.inside.histories in
    let h = c.set-2.new.self in
    let life = subst (λ (m : ℕ). IsLifeWithin m c.args.born None) (sym (reached_of c.self.inside.verdicts.items g c.self.inside.custodies c.args.self.now c.self.view_is)) c.requires.within in (
      ledger_back n g h c.self.inside.index c.self.inside.touched.items c.args.born c.args.uprn life c.in_ok-set-2.ensures.ok c.self.invariant.0,
      passing_back n c.self.inside.custodies c.set.new.self c.self.inside.passed.items c.args.born c.args.uprn c.args.custody life c.self.invariant.1 c.in_ok-set.ensures.ok,
      ties_none c.forget.new.self h n (n + 1) c.forget.ensures,
    )

pub returns-clause-ok : goal.returns-clause-ok
returns-clause-ok c =
    let after = invariant_of-self-2 c in
    account_back c.self.inside.verdicts.items c.self.inside.histories c.set-2.new.self c.self.inside.custodies c.set.new.self c.args.self.now c.args.born c.args.uprn c.args.custody (c.self.invariant.0.within, c.self.invariant.1.within) (after.0.within, after.1.within) c.self.view_is
    c.requires.within c.requires.free c.in_ok-set-2.ensures.ok c.in_ok-set.ensures.ok
