use Rattle.gaz_sql_facts.proofs.Making.{tables_made_anywhere}
use Rattle.gaz_sql_facts.proofs.laws.tables_made_anywhere.Goals as goal

pub returns : goal.returns
returns c = tables_made_anywhere
