use Rattle.std.proofs.Common.{sym}
use Rattle.gaz_ledger.proofs.Ledgers.{finds_less}
use Rattle.gaz_ledger.proofs.changes.forget_mark.Goals as goal

pub returns-then-not-is_marked-2 : goal.returns-then-not-is_marked-2
returns-then-not-is_marked-2 c =
    finds_less c.args.index.now c.remove.new.self c.args.histories.now c.args.reached c.in-Some.mark c.args.key.now (sym c.if-not-is_marked.ensures) (sym c.if-not-is_marked-2.ensures) c.remove.ensures
