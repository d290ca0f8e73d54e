use Rattle.gaz_changefile.proofs.Orderly.{changes-are-placed}
use Rattle.gaz_changefile.proofs.laws.changes_are_placed.Goals as goal

pub returns : goal.returns
returns c = changes-are-placed
