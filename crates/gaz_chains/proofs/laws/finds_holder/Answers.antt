use Rattle.gaz_chains.proofs.Finding.{finds_holder_holds}
use Rattle.gaz_chains.proofs.laws.finds_holder.Goals as goal

pub returns : goal.returns
returns c = finds_holder_holds
