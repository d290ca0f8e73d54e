use Rattle.gaz_kept.proofs.GoneRows.{histories_change}
use Rattle.gaz_kept.proofs.laws.histories_change.Goals as goal

pub returns : goal.returns
returns c = histories_change
