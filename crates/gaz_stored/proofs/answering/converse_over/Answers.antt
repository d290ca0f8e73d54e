-- The store is the same whatever names its register, and its connection is left.
use Rattle.std.proofs.Common.{sym}
use Rattle.gaz_stored.proofs.answering.converse_over.Goals as goal

pub returns-clause-converses : goal.returns-clause-converses
returns-clause-converses g c = record {
  first = c.named-store.result;
  last = c.converse_with-left.result.0;
  same = record { tables = c.named-store.ensures.tables; judging = c.named-store.ensures.judging };
  goes = c.converse_with-left.ensures.converses;
  back = sym c.into_connection.ensures.conn;
}
