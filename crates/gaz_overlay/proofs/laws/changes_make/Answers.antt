use Rattle.gaz_overlay.proofs.Making.{changes_make}
use Rattle.gaz_overlay.proofs.laws.changes_make.Goals as goal

pub returns : goal.returns
returns c = changes_make
