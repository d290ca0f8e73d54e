use Rattle.gaz_kept.proofs.WorkedMigrated.{worked_migrated_holds}
use Rattle.gaz_kept.proofs.laws.worked_migrated.Goals as goal

pub returns : goal.returns
returns c = worked_migrated_holds
