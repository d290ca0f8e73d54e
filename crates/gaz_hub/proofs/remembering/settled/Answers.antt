-- All is settled, and then the reading is called.
use Rattle.std.proofs.Common.{inl}
use Rattle.gaz_hub.proofs.remembering.settled.Goals as goal

pub read_kept-requires : goal.read_kept-requires
read_kept-requires g c = record { callable = c.requires.callable _ c.in_ok-settle_all.ensures.tells.advances.idle }

pub returns-clause-calls : goal.returns-clause-calls
returns-clause-calls g c = inl (record { mid = (c.settle_all.new.keeper, c.settle_all.new.waiters); settled = c.in_ok-settle_all.ensures.tells; called = c.read_kept.ensures.calls })
