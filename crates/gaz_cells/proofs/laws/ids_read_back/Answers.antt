use Rattle.gaz_cells.proofs.Ids.{ids_back}
use Rattle.gaz_cells.proofs.laws.ids_read_back.Goals as goal

pub returns : goal.returns
returns c = ids_back
