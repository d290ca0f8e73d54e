-- What was found is found.
use Rattle.std.proofs.Common.{vec_len}
use Rattle.gaz_ledger.specs.Ledgers.{Finds}
use Rattle.gaz_ledger.proofs.changes.forget_all.Given as goal

abbrev pub invariant-loop-mark : goal.invariant-loop-mark
invariant-loop-mark l = Finds l.initial.index l.histories l.reached → Finds l.index l.histories l.reached

abbrev pub decreases-loop-mark : goal.decreases-loop-mark
decreases-loop-mark l = vec_len l.leaving
