-- A file with a fault is not weighed.
use Rattle.std.proofs.Common.{refl}
use Rattle.gaz_steps.proofs.Looks.{looks_nowhere}
use Rattle.gaz_hub.proofs.looking.read_next.Goals as goal

pub returns-in-Err-Bad : goal.returns-in-Err-Bad
returns-in-Err-Bad g c = looks_nowhere _ _ _ (refl, rw c.in-Err-Bad.field-0-is at c.in-Err-Bad.ensures.bad)
