use Rattle.gaz_steps.proofs.Answers.{every_answer_holds}
use Rattle.gaz_steps.proofs.laws.every_answer.Goals as goal

pub returns : goal.returns
returns c = every_answer_holds
