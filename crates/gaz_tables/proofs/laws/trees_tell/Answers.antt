use Rattle.gaz_tables.proofs.Trees.{trees_tell}
use Rattle.gaz_tables.proofs.laws.trees_tell.Goals as goal

pub returns : goal.returns
returns c = trees_tell
