use Rattle.std.proofs.Common.{refl}
use Rattle.gaz_shelf.proofs.laws.worked_examples.Goals as goal

pub returns : goal.returns
returns c = record { at_the_highest = refl; above_the_highest = refl; of_nobody = refl }
