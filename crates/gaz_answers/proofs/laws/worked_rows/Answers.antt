use Rattle.gaz_answers.proofs.WorkedRows.{rows_hold}
use Rattle.gaz_answers.proofs.laws.worked_rows.Goals as goal

pub returns : goal.returns
returns c = rows_hold
