use Rattle.gaz_rules.proofs.RecordSentences.{record_tests_say_holds}
use Rattle.gaz_rules.proofs.laws.tests_say.Goals as goal

pub returns : goal.returns
returns c = record { records = record_tests_say_holds }
