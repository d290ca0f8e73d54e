use Rattle.gaz_steps.proofs.Leading.{standing_is_settled}
use Rattle.gaz_steps.proofs.laws.standing_is_settled.Goals as goal

pub returns : goal.returns
returns c = standing_is_settled
