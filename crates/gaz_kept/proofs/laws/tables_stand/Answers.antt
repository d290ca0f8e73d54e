use Rattle.gaz_kept.proofs.Stands.{tables_stand}
use Rattle.gaz_kept.proofs.laws.tables_stand.Goals as goal

pub returns : goal.returns
returns c = tables_stand
