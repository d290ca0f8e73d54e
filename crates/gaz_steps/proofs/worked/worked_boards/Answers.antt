use Rattle.gaz_steps.proofs.WorkedBoards.{worked_boards_hold}
use Rattle.gaz_steps.proofs.worked.worked_boards.Goals as goal

pub returns : goal.returns
returns c = worked_boards_hold
