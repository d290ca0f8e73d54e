-- The changes so far are shared.
use Rattle.std.proofs.Common.{take}
use Rattle.gaz_mirror.specs.Gathering.{AreSameChanges}
use Rattle.gaz_mirror.proofs.gathered.Gathered.copy.Given as goal

abbrev pub invariant-loop-change : goal.invariant-loop-change
invariant-loop-change l = AreSameChanges (take l.change-index l.change-items) l.changes.items
