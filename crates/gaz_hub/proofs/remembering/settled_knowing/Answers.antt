-- All is settled, and then the reading is called with what is known.
use Rattle.std.proofs.Common.{inl, rules}
use Rattle.gaz_hub.proofs.remembering.settled_knowing.Goals as goal

pub returns-clause-calls : goal.returns-clause-calls
returns-clause-calls g c =
    let calls = c.read_kept.ensures.calls in
    inl (record {
      mid = (c.settle_all.new.keeper, c.settle_all.new.waiters);
      settled = c.in_ok-settle_all.ensures.tells;
      called = record { last = calls.last; told = calls.told; called = search rules; sure = calls.sure; kept = calls.kept };
    })
