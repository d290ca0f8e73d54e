use Rattle.gaz_cells.proofs.CustodyBack.{custody_back}
use Rattle.gaz_cells.proofs.laws.custody_reads_back.Goals as goal

pub returns : goal.returns
returns c = custody_back
