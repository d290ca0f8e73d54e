use Rattle.gaz_steps.proofs.ReadingLaws.{one_holder_holds}
use Rattle.gaz_steps.proofs.laws.one_holder.Goals as goal

pub returns : goal.returns
returns c = one_holder_holds
