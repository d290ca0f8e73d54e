use Rattle.gaz_kept.proofs.PassageExamples.{rows_hold}
use Rattle.gaz_kept.proofs.laws.worked_passages.Goals as goal

pub returns : goal.returns
returns c = rows_hold
