use Rattle.gaz_tables.proofs.VersionOnce.{born_once}
use Rattle.gaz_tables.proofs.laws.born_once.Goals as goal

pub returns : goal.returns
returns c = born_once
