use Rattle.gaz_steps.proofs.Orders.{more_files_hold}
use Rattle.gaz_steps.proofs.laws.more_files.Goals as goal

pub returns : goal.returns
returns c = more_files_hold
