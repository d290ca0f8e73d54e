use Rattle.gaz_row_items.proofs.RowExamples.{rows_hold}
use Rattle.gaz_row_items.proofs.laws.worked_rows.Goals as goal

pub returns : goal.returns
returns c = rows_hold
