use Rattle.gaz_tables.proofs.Staying.{tables_stay}
use Rattle.gaz_tables.proofs.laws.tables_stay.Goals as goal

pub returns : goal.returns
returns c = tables_stay
