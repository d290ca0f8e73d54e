use Rattle.gaz_kept.proofs.Migrated.{migration_stands}
use Rattle.gaz_kept.proofs.laws.migration_stands.Goals as goal

pub returns : goal.returns
returns c = migration_stands
