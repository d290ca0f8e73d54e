use Rattle.gaz_rules.proofs.Verdicts.{judges_say_holds}
use Rattle.gaz_rules.proofs.laws.judges_say.Goals as goal

pub returns : goal.returns
returns c = judges_say_holds
