use Rattle.gaz_kept.proofs.Boards.{board_changes}
use Rattle.gaz_kept.proofs.laws.board_changes.Goals as goal

pub returns : goal.returns
returns c = board_changes
