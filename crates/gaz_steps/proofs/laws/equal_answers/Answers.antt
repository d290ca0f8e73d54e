use Rattle.gaz_steps.proofs.ReadingLaws.{equal_answers_hold}
use Rattle.gaz_steps.proofs.laws.equal_answers.Goals as goal

pub returns : goal.returns
returns c = equal_answers_hold
