use Rattle.gaz_register.proofs.Keyed.{reads-registers}
use Rattle.gaz_register.proofs.laws.reads_registers.Goals as goal

pub returns : goal.returns
returns c = reads-registers
