use Rattle.gaz_steps.proofs.ReadingLaws.{extracts_stay_hold}
use Rattle.gaz_steps.proofs.laws.extracts_stay.Goals as goal

pub returns : goal.returns
returns c = extracts_stay_hold
