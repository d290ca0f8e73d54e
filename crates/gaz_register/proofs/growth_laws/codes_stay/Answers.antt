use Rattle.gaz_register.proofs.Grown.{codes-stay}
use Rattle.gaz_register.proofs.growth_laws.codes_stay.Goals as goal

pub returns : goal.returns
returns c = codes-stay
