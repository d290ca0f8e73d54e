use Rattle.gaz_register.proofs.Grown.{growth-tells}
use Rattle.gaz_register.proofs.growth_laws.growth_tells.Goals as goal

pub returns : goal.returns
returns c = growth-tells
