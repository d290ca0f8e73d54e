use Rattle.gaz_tables.proofs.StandingTexts.{statements}
use Rattle.gaz_tables.proofs.laws.statements_stand_alone.Goals as goal

pub returns : goal.returns
returns c = statements
