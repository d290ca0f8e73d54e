use Rattle.gaz_steps.proofs.ChainLater.{chains_of_boards_holds}
use Rattle.gaz_steps.proofs.laws.chains_of_boards.Goals as goal

pub returns : goal.returns
returns c = chains_of_boards_holds
