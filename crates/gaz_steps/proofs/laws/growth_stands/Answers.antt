use Rattle.gaz_steps.proofs.Growing.{growth_stands_holds}
use Rattle.gaz_steps.proofs.laws.growth_stands.Goals as goal

pub returns : goal.returns
returns g c = growth_stands_holds g.K.Shelf.seen
