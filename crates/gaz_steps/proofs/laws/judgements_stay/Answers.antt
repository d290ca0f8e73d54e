use Rattle.gaz_steps.proofs.Runs.{judgements_stay_holds}
use Rattle.gaz_steps.proofs.laws.judgements_stay.Goals as goal

pub returns : goal.returns
returns c = judgements_stay_holds
