use Rattle.gaz_tables.proofs.Steps.{leaves_the_commit}
use Rattle.gaz_tables.proofs.alone.receive.Goals as goal

pub returns-clause-certain : goal.returns-clause-certain
returns-clause-certain g c = leaves_the_commit g.S.Store _ g.met.S.Store.settled c.commit.result
