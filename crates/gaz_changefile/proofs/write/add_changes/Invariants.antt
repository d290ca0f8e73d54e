use Rattle.std.proofs.Common.{◌≡◌, ◌++◌, take}
use Rattle.gaz_rows.specs.Rows.{lines_of}
use Rattle.gaz_changefile.specs.Writing.{change_rows}
use Rattle.gaz_changefile.proofs.write.add_changes.Given as goal

abbrev pub invariant-loop-i : goal.invariant-loop-i
invariant-loop-i l = l.out.items ≡ l.fn.out.items ++ lines_of (change_rows 1 (take l.i l.changes))
