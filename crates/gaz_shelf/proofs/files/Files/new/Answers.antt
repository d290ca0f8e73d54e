use Rattle.gaz_shelf.proofs.Highest.{none_below}
use Rattle.gaz_shelf.proofs.files.Files.new.Goals as goal

pub invariant_of-result : goal.invariant_of-result
invariant_of-result c = none_below c.new-2.result.entries c.new.result.entries c.new.ensures.empty
