use Rattle.gaz_end_rules.proofs.KeySentences.{tests_say_holds}
use Rattle.gaz_end_rules.proofs.laws.tests_say.Goals as goal

pub returns : goal.returns
returns c = record { ends = tests_say_holds }
