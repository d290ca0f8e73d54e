use Rattle.std.proofs.Common.{sym}
use Rattle.gazhub.proofs.Playing.{new_made}
use Rattle.gazhub.proofs.program.new_store.Goals as goal

pub returns-in-Ok-clause-new : goal.returns-in-Ok-clause-new
returns-in-Ok-clause-new c = new_made _ c.in_ok-conn.conn c.in-Ok.store c.into_connection.result c.in_ok-conn.ensures.empty c.in-Ok.ensures.made (sym c.into_connection.ensures.conn)
