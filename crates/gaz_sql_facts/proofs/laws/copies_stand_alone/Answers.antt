use Rattle.gaz_sql_facts.proofs.CopyTexts.{copies_stand_alone}
use Rattle.gaz_sql_facts.proofs.laws.copies_stand_alone.Goals as goal

pub returns : goal.returns
returns c = copies_stand_alone
