use Rattle.gaz_rows.proofs.Back.{rows-read-back}
use Rattle.gaz_rows.proofs.laws.rows_read_back.Goals as goal

pub returns : goal.returns
returns c = rows-read-back
