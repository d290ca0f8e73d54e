use Rattle.gaz_steps.proofs.EachIsTold.{each_is_told_holds}
use Rattle.gaz_steps.proofs.laws.each_is_told.Goals as goal

pub returns : goal.returns
returns c = each_is_told_holds
