use Rattle.gaz_ids.proofs.CodeTexts.{lang-back, status-back}
use Rattle.gaz_ids.proofs.laws.codes_read_back.Goals as goal

pub returns : goal.returns
returns c = (lang-back, status-back)
