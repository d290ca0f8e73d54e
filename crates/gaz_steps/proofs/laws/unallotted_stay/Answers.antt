use Rattle.gaz_steps.proofs.ChainNobody.{unallotted_stay_holds}
use Rattle.gaz_steps.proofs.laws.unallotted_stay.Goals as goal

pub returns : goal.returns
returns c = unallotted_stay_holds
