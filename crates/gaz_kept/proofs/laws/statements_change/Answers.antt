use Rattle.gaz_kept.proofs.Statements.{statements_change}
use Rattle.gaz_kept.proofs.laws.statements_change.Goals as goal

pub returns : goal.returns
returns c = statements_change
