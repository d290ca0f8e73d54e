use Rattle.gaz_tables.proofs.ReceivedOnce.{received_once}
use Rattle.gaz_tables.proofs.laws.received_once.Goals as goal

pub returns : goal.returns
returns c = received_once
