use Rattle.std.proofs.Common.{rules, ◌≡◌, ◌+◌, ℕ, length, subst, sym}
use Rattle.gaz_standing.proofs.TieFacts.{ties_shed}
use Rattle.gaz_standing.specs.Ties.{AreTies}
use Rattle.gaz_ledger.proofs.Closings.{account_undone}
use Rattle.gaz_ledger.proofs.Ledgers.{ledger_found}
use Rattle.gaz_ledger.proofs.TiesKept.{ties_undone}
use Rattle.gaz_ledger.specs.Custodies.{IsPassing}
use Rattle.gaz_ledger.specs.Ledgers.{IsLedger}
use Rattle.gaz_ledger.proofs.ledger.Ledger.undo.Goals as goal

pub invariant_of-self : goal.invariant_of-self
invariant_of-self c =
    let reach : c.len-reached.result ≡ length c.self.inside.verdicts.items = search rules in (
      subst (λ (n : ℕ). IsLedger n c.undo_all.new.histories c.forget_all.new.index c.undo_all.new.touched.items) reach
          (ledger_found c.len-reached.result c.undo_all.new.histories c.undo_all.new.index c.forget_all.new.index c.undo_all.new.touched.items c.undo_all.ensures.ledger c.forget_all.ensures.finds),
      subst (λ (n : ℕ). IsPassing n c.undo_passing.new.custodies c.undo_passing.new.passed.items) reach c.undo_passing.ensures.passing,
      subst (λ (n : ℕ). AreTies c.shed.new.self c.undo_all.new.histories n (n + 1)) reach
          (ties_shed c.self.inside.ties c.shed.new.self c.undo_all.new.histories c.len-reached.result (c.len-reached.result + 1) c.shed.ensures (ties_undone c.self.inside.ties c.self.inside.histories c.undo_all.new.histories c.undo_all.new.index c.undo_all.new.touched.items c.len-reached.result c.undo_all.ensures.ledger c.undo_all.ensures.undone c.undo_all.ensures.past
          (subst (λ (n : ℕ). AreTies c.self.inside.ties c.self.inside.histories n (n + 1)) (sym reach) c.self.invariant.2))),
    )

pub returns : goal.returns
returns c =
    let reach : c.len-reached.result ≡ length c.self.inside.verdicts.items = search rules in
    account_undone c.self.inside.verdicts.items c.self.inside.histories c.undo_all.new.histories c.self.inside.custodies c.undo_passing.new.custodies c.undo_all.new.index c.undo_all.new.touched.items c.undo_passing.new.passed.items c.args.self.now c.len-reached.result reach c.self.view_is (c.self.invariant.0.within, c.self.invariant.1.within) c.undo_all.ensures.ledger c.undo_all.ensures.undone c.undo_passing.ensures.passing c.undo_passing.ensures.undone c.undo_all.ensures.past c.undo_passing.ensures.past
