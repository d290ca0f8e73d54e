-- What is left has the faults of all.
use Rattle.std.proofs.Common.{drop}
use Rattle.gaz_rules.proofs.Phases.{AskedSoFar}
use Rattle.gaz_rules.proofs.judging.end_phase.Given as goal

abbrev pub invariant-loop-change : goal.invariant-loop-change
invariant-loop-change g l =
    AskedSoFar (g.K.Shelf.seen l.fn.keeper) (g.K.Shelf.seen l.keeper) l.code l.bases l.changes (drop l.change-index l.changes) l.known
