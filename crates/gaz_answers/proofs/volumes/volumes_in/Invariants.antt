use Rattle.std.proofs.Common.{take}
use Rattle.gaz_answers.specs.Volumes.{SayVolumes}
use Rattle.gaz_answers.proofs.volumes.volumes_in.Given as goal

abbrev pub invariant-loop-row : goal.invariant-loop-row
invariant-loop-row l = SayVolumes (take l.row-index l.rows) l.volumes.items
