use Rattle.gaz_steps.proofs.ReadBack.{boards_read_back_holds}
use Rattle.gaz_steps.proofs.laws.boards_read_back.Goals as goal

pub returns : goal.returns
returns c = boards_read_back_holds
