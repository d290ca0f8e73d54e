use Rattle.std.proofs.Common.{◌∙◌}
use Rattle.std.specs.FinMap as finite
use Rattle.gaz_standing.proofs.TieFacts.{ties_none}
use Rattle.gaz_ledger.proofs.Becoming.{passing_new}
use Rattle.gaz_ledger.proofs.Ledgers.{account_new, ledger_new}
use Rattle.gaz_ledger.specs.Ledgers.{account_at}
use Rattle.gaz_ledger.proofs.ledger.Ledger.new.Goals as goal

pub invariant_of-result : goal.invariant_of-result
invariant_of-result c = rw (c.new.ensures.items, c.new-2.ensures, c.new-4.ensures.items, c.new-6.ensures) (ledger_new c.new-3.result, passing_new c.new-7.result.items, ties_none c.new-8.result finite.empty 0 1 c.new-8.ensures)

pub returns : goal.returns
returns c = (λ i. account_at (c.new.ensures.items i) (c.new-2.ensures i) (c.new-6.ensures i)) ∙ account_new
