use Rattle.gaz_sql_facts.proofs.Making.{indexes_made_anywhere}
use Rattle.gaz_sql_facts.proofs.laws.indexes_made_anywhere.Goals as goal

pub returns : goal.returns
returns c = indexes_made_anywhere
