use Rattle.gaz_row_items.proofs.PassageExamples.{passages_hold}
use Rattle.gaz_row_items.proofs.laws.worked_passages.Goals as goal

pub returns : goal.returns
returns c = passages_hold
