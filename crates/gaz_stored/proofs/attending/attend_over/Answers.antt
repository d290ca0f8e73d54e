-- The store is the same whatever names its register, and its connection is left.
use Rattle.std.proofs.Common.{refl, sym}
use Rattle.gaz_stored.proofs.Alone.{goes_unused}
use Rattle.gaz_stored.proofs.Meetings.{nobody, with_same}
use Rattle.gaz_stored.proofs.attending.attend_over.Goals as goal

pub returns-in-Ok-clause-attends : goal.returns-in-Ok-clause-attends
returns-in-Ok-clause-attends g c =
    with_same _ _ _ _ _ _ _ (λ met goes. record {
      first = c.named-store.result;
      last = c.serve_with-left.result.0;
      same = record { tables = c.named-store.ensures.tables; judging = c.named-store.ensures.judging };
      goes = goes;
      back = sym c.into_connection.ensures.conn;
    }) c.serve_with-left.ensures.serves

pub returns-in-Err-clause-attends : goal.returns-in-Err-clause-attends
returns-in-Err-clause-attends g c =
    nobody _ _ _ _ _ (record {
      first = c.named-store.result;
      last = c.named-store.result;
      same = record { tables = c.named-store.ensures.tables; judging = c.named-store.ensures.judging };
      goes = goes_unused _ c.args.register _ c.named-store.result (refl, record { still = refl; unasked = refl; untold = refl });
      back = sym c.into_connection-in-Err.ensures.conn;
    })
