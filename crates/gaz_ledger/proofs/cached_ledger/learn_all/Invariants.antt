-- What is known stays so.
use Rattle.std.proofs.Common.{vec_len}
use Rattle.gaz_views.specs.Accounts.{last_of}
use Rattle.gaz_ledger.specs.Properties.{AreSo}
use Rattle.gaz_ledger.proofs.cached_ledger.learn_all.Given as goal

abbrev pub invariant-loop-key : goal.invariant-loop-key
invariant-loop-key l = AreSo l.initial.known (last_of l.ledger) → AreSo l.known (last_of l.ledger)

abbrev pub decreases-loop-key : goal.decreases-loop-key
decreases-loop-key l = vec_len l.changed
