use Rattle.gaz_overlay.proofs.PassingExamples.{passing_holds}
use Rattle.gaz_overlay.proofs.laws.worked_passing.Goals as goal

pub returns : goal.returns
returns c = passing_holds
