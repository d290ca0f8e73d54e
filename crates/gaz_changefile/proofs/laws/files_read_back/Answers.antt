use Rattle.gaz_changefile.proofs.Back.{file-back}
use Rattle.gaz_changefile.proofs.laws.files_read_back.Goals as goal

pub returns : goal.returns
returns c = file-back
