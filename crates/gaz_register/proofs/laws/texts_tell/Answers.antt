use Rattle.gaz_register.proofs.Telling.{texts-tell}
use Rattle.gaz_register.proofs.laws.texts_tell.Goals as goal

pub returns : goal.returns
returns c = texts-tell
