use Rattle.gaz_end_rules.proofs.ParentRings.{finds_rings_holds}
use Rattle.gaz_end_rules.proofs.laws.finds_rings.Goals as goal

pub returns : goal.returns
returns c = finds_rings_holds
