use Rattle.gaz_changefile.proofs.Orderly.{changes-are-allowed}
use Rattle.gaz_changefile.proofs.laws.changes_are_allowed.Goals as goal

pub returns : goal.returns
returns c = changes-are-allowed
