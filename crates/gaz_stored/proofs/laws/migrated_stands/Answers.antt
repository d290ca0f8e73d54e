use Rattle.gaz_stored.proofs.Moving.{migrated_stands}
use Rattle.gaz_stored.proofs.laws.migrated_stands.Goals as goal

pub returns : goal.returns
returns c = migrated_stands
