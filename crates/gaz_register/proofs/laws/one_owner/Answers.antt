use Rattle.gaz_register.proofs.Ownership.{one-owner}
use Rattle.gaz_register.proofs.laws.one_owner.Goals as goal

pub returns : goal.returns
returns c = one-owner
