use Rattle.gaz_exchange.proofs.WorkedStreams.{worked_streams_hold}
use Rattle.gaz_exchange.proofs.laws.worked_streams.Goals as goal

pub returns : goal.returns
returns c = worked_streams_hold
