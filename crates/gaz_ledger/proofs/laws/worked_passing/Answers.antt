use Rattle.gaz_ledger.proofs.PassingExamples.{passing_examples}
use Rattle.gaz_ledger.proofs.laws.worked_passing.Goals as goal

pub returns : goal.returns
returns c = passing_examples
