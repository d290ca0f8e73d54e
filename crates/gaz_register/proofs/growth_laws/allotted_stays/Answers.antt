use Rattle.gaz_register.proofs.Grown.{all-allotted-stays}
use Rattle.gaz_register.proofs.growth_laws.allotted_stays.Goals as goal

pub returns : goal.returns
returns c = all-allotted-stays
