use Rattle.gaz_chains.proofs.WorkedRules.{worked_rules_holds}
use Rattle.gaz_chains.proofs.laws.worked_rules.Goals as goal

pub returns : goal.returns
returns c = worked_rules_holds
