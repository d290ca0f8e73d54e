use Rattle.gaz_rules.proofs.JudgedExamples.{worked_examples_hold}
use Rattle.gaz_rules.proofs.laws.worked_examples.Goals as goal

pub returns : goal.returns
returns c = worked_examples_hold
