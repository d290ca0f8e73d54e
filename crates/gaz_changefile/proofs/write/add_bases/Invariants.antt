use Rattle.std.proofs.Common.{◌≡◌, ◌++◌, map, take}
use Rattle.gaz_rows.specs.Rows.{lines_of}
use Rattle.gaz_changefile.specs.Writing.{basis_row}
use Rattle.gaz_changefile.proofs.write.add_bases.Given as goal

abbrev pub invariant-loop-basis : goal.invariant-loop-basis
invariant-loop-basis l = l.out.items ≡ l.fn.out.items ++ lines_of (map basis_row (take l.basis-index l.bases))
