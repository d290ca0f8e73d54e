use Rattle.gaz_kept.proofs.Judging.{files_change}
use Rattle.gaz_kept.proofs.laws.files_change.Goals as goal

pub returns : goal.returns
returns c = files_change
