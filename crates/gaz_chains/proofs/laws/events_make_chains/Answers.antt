use Rattle.gaz_chains.proofs.Steps.{events_make_chains_holds}
use Rattle.gaz_chains.proofs.laws.events_make_chains.Goals as goal

pub returns : goal.returns
returns c = events_make_chains_holds
