use Rattle.gaz_answers.proofs.WorkedLives.{worked_telling}
use Rattle.gaz_answers.proofs.laws.worked_telling.Goals as goal

pub returns : goal.returns
returns c = worked_telling
