use Rattle.std.proofs.Common.{take}
use Rattle.gaz_answers.specs.Passages.{SayPassages}
use Rattle.gaz_answers.proofs.passages.passages_in.Given as goal

abbrev pub invariant-loop-row : goal.invariant-loop-row
invariant-loop-row l = SayPassages (take l.row-index l.rows) l.passages.items
