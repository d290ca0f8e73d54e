use Rattle.gaz_steps.proofs.Owners.{owners_alone_hold}
use Rattle.gaz_steps.proofs.laws.owners_alone.Goals as goal

pub returns : goal.returns
returns c = owners_alone_hold
