use Rattle.gaz_register.proofs.Keyed.{sorts-blocks}
use Rattle.gaz_register.proofs.laws.sorts_blocks.Goals as goal

pub returns : goal.returns
returns c = sorts-blocks
