-- The store is the same whatever names its register, and its connection is left.
use Rattle.std.proofs.Common.{sym}
use Rattle.gaz_stored.proofs.asking.ask_over.Goals as goal

pub returns-clause-asks : goal.returns-clause-asks
returns-clause-asks g c = record {
  first = c.named.result;
  last = c.ask_with-left.result.0;
  same = record { tables = c.named.ensures.tables; judging = c.named.ensures.judging };
  goes = c.ask_with-left.ensures;
  back = sym c.into_connection.ensures.conn;
}
