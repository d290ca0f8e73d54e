use Rattle.gaz_tables.proofs.Four.{own_first_tables}
use Rattle.gaz_tables.proofs.laws.own_first_tables.Goals as goal

pub returns : goal.returns
returns c = own_first_tables
