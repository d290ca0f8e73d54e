use Rattle.gaz_rules.proofs.Passing.{passes_as_asked_holds}
use Rattle.gaz_rules.proofs.laws.passes_as_asked.Goals as goal

pub returns : goal.returns
returns c = passes_as_asked_holds
