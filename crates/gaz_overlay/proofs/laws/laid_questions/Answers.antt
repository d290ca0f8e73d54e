use Rattle.gaz_overlay.proofs.Questions.{laid_questions}
use Rattle.gaz_overlay.proofs.laws.laid_questions.Goals as goal

pub returns : goal.returns
returns c = laid_questions
