use Rattle.gaz_rows.proofs.Utf8.{lines-utf8}
use Rattle.gaz_rows.proofs.laws.rows_are_utf8.Goals as goal

pub returns : goal.returns
returns c = lines-utf8
