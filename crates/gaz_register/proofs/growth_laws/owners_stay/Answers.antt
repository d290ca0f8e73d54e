use Rattle.gaz_register.proofs.Grown.{owners-stay}
use Rattle.gaz_register.proofs.growth_laws.owners_stay.Goals as goal

pub returns : goal.returns
returns c = owners-stay
