use Rattle.gaz_loaded.proofs.Examples.{worked_examples_hold}
use Rattle.gaz_loaded.proofs.laws.worked_examples.Goals as goal

pub returns : goal.returns
returns c = worked_examples_hold
