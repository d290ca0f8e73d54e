use Rattle.gaz_kept.proofs.KeepStands.{keep_stands}
use Rattle.gaz_kept.proofs.laws.volumes_are_kept.Goals as goal

pub returns : goal.returns
returns c = keep_stands
