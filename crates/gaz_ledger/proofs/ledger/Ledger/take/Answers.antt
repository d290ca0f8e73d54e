use Rattle.std.proofs.Common.{rules, ◌≡◌, ◌∙◌, false, length, sym, true}
use Rattle.gaz_ledger.proofs.Closings.{account_taken, account_unmarked, account_untaken, ledger_changed}
use Rattle.gaz_ledger.proofs.TiesKept.{ties_changed}
use Rattle.std.specs.Prelude.{None}
use Rattle.gaz_ledger.proofs.ledger.Ledger.take.Goals as goal

pub returns-then-is_none-clause-ok : goal.returns-then-is_none-clause-ok
returns-then-is_none-clause-ok c =
    let reach : c.len-reached.result ≡ length c.self.inside.verdicts.items = search rules in
    account_untaken c.self.inside.verdicts.items c.self.inside.histories c.self.inside.custodies c.args.self.now c.args.key.now c.item.result c.len-reached.result reach c.self.view_is c.item.ensures c.if-is_none.ensures

pub returns-then-is_none-clause-marks : goal.returns-then-is_none-clause-marks
returns-then-is_none-clause-marks c =
    let reach : c.len-reached.result ≡ length c.self.inside.verdicts.items = search rules in
    λ m at. let none : false ≡ true = sym (account_unmarked c.self.inside.verdicts.items c.self.inside.histories c.self.inside.custodies c.args.self.now c.args.key.now c.item.result c.len-reached.result reach c.self.view_is c.item.ensures c.if-is_none.ensures m) ∙ at in cc

pub invariant_of-self-2 : goal.invariant_of-self-2
invariant_of-self-2 c =
    let reach : c.len-reached.result ≡ length c.self.inside.verdicts.items = search rules in (
      ledger_changed c.self.inside.verdicts.items c.self.inside.histories c.change.new.histories c.self.inside.custodies c.args.key.now None c.len-reached.result reach c.in_ok-change.ensures.ok
          c.self.inside.index c.change.new.index c.self.inside.touched.items c.touch.new.touched.items c.self.invariant.0 c.in_ok-change.ensures.finds c.in_ok-touch.ensures.ok,
      c.self.invariant.1,
      ties_changed (length c.self.inside.verdicts.items) c.len-reached.result c.self.inside.ties c.change.new.ties c.self.inside.histories c.change.new.histories reach c.in_ok-change.ensures.ties c.self.invariant.2,
    )

pub returns-clause-ok : goal.returns-clause-ok
returns-clause-ok c =
    let reach : c.len-reached.result ≡ length c.self.inside.verdicts.items = search rules in
    account_taken c.self.inside.verdicts.items c.self.inside.histories c.change.new.histories c.self.inside.custodies c.args.self.now c.args.key.now c.item.result c.len-reached.result reach c.self.view_is c.item.ensures c.if-is_none.ensures c.in_ok-change.ensures.ok
