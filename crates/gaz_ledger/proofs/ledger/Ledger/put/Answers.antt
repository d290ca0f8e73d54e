use Rattle.std.proofs.Common.{rules, ◌≡◌, ◌∙◌, ap, length}
use Rattle.gaz_records.specs.Keys.{key_of}
use Rattle.gaz_ledger.proofs.Closings.{account_put, ledger_changed}
use Rattle.gaz_ledger.proofs.TiesKept.{ties_changed}
use Rattle.std.specs.Prelude.{Some}
use Rattle.gaz_ledger.proofs.ledger.Ledger.put.Goals as goal

pub invariant_of-self-2 : goal.invariant_of-self-2
invariant_of-self-2 c =
    let reach : c.len-reached.result ≡ length c.self.inside.verdicts.items = search rules in (
      ledger_changed c.self.inside.verdicts.items c.self.inside.histories c.change.new.histories c.self.inside.custodies c.key_of-key.result (Some c.args.item) c.len-reached.result reach c.in_ok-change.ensures.ok
          c.self.inside.index c.change.new.index c.self.inside.touched.items c.touch.new.touched.items c.self.invariant.0 c.in_ok-change.ensures.finds c.in_ok-touch.ensures.ok,
      c.self.invariant.1,
      ties_changed (length c.self.inside.verdicts.items) c.len-reached.result c.self.inside.ties c.change.new.ties c.self.inside.histories c.change.new.histories reach c.in_ok-change.ensures.ties c.self.invariant.2,
    )

pub returns-clause-ok : goal.returns-clause-ok
returns-clause-ok c =
    let reach : c.len-reached.result ≡ length c.self.inside.verdicts.items = search rules in
    account_put c.self.inside.verdicts.items c.self.inside.histories c.change.new.histories c.self.inside.custodies c.args.self.now c.key_of-key.result c.args.item c.len-reached.result reach c.self.view_is (c.key_of-key.ensures ∙ ap key_of c.deref.ensures) c.in_ok-change.ensures.ok
