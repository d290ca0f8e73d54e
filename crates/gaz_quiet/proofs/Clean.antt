-- A connection over files that give what was written has a clean disk.
use Rattle.std.proofs.Common.{refl}
use Rattle.sqlite_pool.specs.Pool.{state}
use Rattle.sqlite_trees.proofs.Doubt.{no_doubt}
use Rattle.sqlite.specs.Files.{file_state}
use Rattle.sqlite.specs.State.{HasCleanDisk}
use Rattle.gaz_quiet.specs.Databases.{Quiet}

pub quiet_is_clean : (c : Quiet) → HasCleanDisk (file_state c)
unfolding state
quiet_is_clean c = no_doubt (file_state c).is_clean refl
