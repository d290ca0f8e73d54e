use Rattle.gaz_row_items.proofs.Examples.{worked_examples_hold}
use Rattle.gaz_row_items.proofs.laws.worked_examples.Goals as goal

pub returns : goal.returns
returns c = worked_examples_hold
