use Rattle.gaz_changefile.proofs.Typed.{readings_are_typed}
use Rattle.gaz_changefile.proofs.laws.readings_are_typed.Goals as goal

pub returns : goal.returns
returns c = readings_are_typed
