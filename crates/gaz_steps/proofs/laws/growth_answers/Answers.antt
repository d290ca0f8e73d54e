use Rattle.gaz_steps.proofs.GrownAnswers.{answers_stay_holds}
use Rattle.gaz_steps.proofs.laws.growth_answers.Goals as goal

pub returns : goal.returns
returns c = answers_stay_holds
