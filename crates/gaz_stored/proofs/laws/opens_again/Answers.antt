use Rattle.gaz_stored.proofs.Reopening.{opens_again}
use Rattle.gaz_stored.proofs.laws.opens_again.Goals as goal

pub returns : goal.returns
returns g c = opens_again g.S.Store
