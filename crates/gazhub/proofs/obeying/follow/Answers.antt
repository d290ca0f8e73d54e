use Rattle.std.proofs.Common.{refl}
use Rattle.std.proofs.KnownBytes.{Keeps-refl}
use Rattle.gazhub.specs.Commands.{Followed, Explained}
use Rattle.gazhub.proofs.obeying.follow.Goals as goal

pub returns-in-Ok : goal.returns-in-Ok
returns-in-Ok g c = Followed c.in-Ok.command c.in-Ok.ensures c.obey.ensures

pub returns-in-Err : goal.returns-in-Err
returns-in-Err g c = Explained c.in-Err.error c.in-Err.ensures (record { explained = c.explain.ensures.explained; silent = record { read = Keeps-refl _; printed = c.explain.ensures.silent }; still = refl })
