use Rattle.gaz_extract.proofs.ReadBack.{extracts_back}
use Rattle.gaz_extract.proofs.laws.extracts_read_back.Goals as goal

pub returns : goal.returns
returns c = extracts_back
