use Rattle.std.proofs.Common.{◌≡◌}
use Rattle.gaz_fields.proofs.LabelBytes.{filled}
use Rattle.gaz_fields.proofs.label.Label.read.Given as goal

abbrev pub invariant-loop-i : goal.invariant-loop-i
invariant-loop-i g l = l.bytes ≡ filled g.row.MOST l.i l.text
