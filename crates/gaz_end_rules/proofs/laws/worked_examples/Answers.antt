use Rattle.gaz_end_rules.proofs.EndExamples.{on_end_rules}
use Rattle.gaz_end_rules.proofs.laws.worked_examples.Goals as goal

pub returns : goal.returns
returns c = on_end_rules
