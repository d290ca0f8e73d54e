-- After a fault nothing is remembered, else all.
use Rattle.std.proofs.Common.{inl, inr, refl, rules}
use Rattle.gaz_hub.proofs.remembering.read_kept.Goals as goal

pub returns-then-is_err-clause-calls : goal.returns-then-is_err-clause-calls
returns-then-is_err-clause-calls g c = record { last = c.read-read.new.arg2; told = c.read-read.result; called = search rules; sure = c.once_sure-told.ensures.sured; kept = inr refl }

pub returns-else-is_err-clause-calls : goal.returns-else-is_err-clause-calls
returns-else-is_err-clause-calls g c = record { last = c.read-read.new.arg2; told = c.read-read.result; called = search rules; sure = c.once_sure-told.ensures.sured; kept = inl refl }
