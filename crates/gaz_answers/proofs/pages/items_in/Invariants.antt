use Rattle.std.proofs.Common.{take}
use Rattle.gaz_answers.specs.Paging.{SayItems}
use Rattle.gaz_answers.proofs.pages.items_in.Given as goal

abbrev pub invariant-loop-row : goal.invariant-loop-row
invariant-loop-row l = SayItems l.kind (take l.row-index l.rows) l.items.items
