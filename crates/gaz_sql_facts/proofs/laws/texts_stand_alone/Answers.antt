use Rattle.gaz_sql_facts.proofs.TextMoves.{texts_stand_alone}
use Rattle.gaz_sql_facts.proofs.laws.texts_stand_alone.Goals as goal

pub returns : goal.returns
returns c = texts_stand_alone
