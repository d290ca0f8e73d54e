use Rattle.gaz_ledger.proofs.Ledgers.{finds_cut}
use Rattle.gaz_ledger.proofs.changes.undo_key.Goals as goal

pub returns-clause-finds : goal.returns-clause-finds
returns-clause-finds c finds = c.forget.ensures (finds_cut c.args.index.now c.args.histories.now c.cut.new.self c.args.key.now c.args.reached c.cut.ensures finds)
