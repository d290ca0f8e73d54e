use Rattle.gaz_register.proofs.Grown.{extends-composes}
use Rattle.gaz_register.proofs.growth_laws.extends_composes.Goals as goal

pub returns : goal.returns
returns c = extends-composes
