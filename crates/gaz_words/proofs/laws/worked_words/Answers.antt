use Rattle.gaz_words.proofs.WorkedWords.{worked}
use Rattle.gaz_words.proofs.laws.worked_words.Goals as goal

pub returns : goal.returns
returns c = worked
