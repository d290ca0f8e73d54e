use Rattle.gaz_steps.proofs.WorkedAnswers.{worked_answers_hold}
use Rattle.gaz_steps.proofs.worked.worked_answers.Goals as goal

pub returns : goal.returns
returns c = worked_answers_hold
