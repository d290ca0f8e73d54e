use Rattle.std.proofs.Common.{true}
use Rattle.gaz_exchange.proofs.FailureFacts.{stopped_writing}
use Rattle.gaz_exchange.proofs.turn.refuse.Goals as goal

pub returns-clause-failed : goal.returns-clause-failed
returns-clause-failed g c = stopped_writing g.W.Sink.failed c.send.new.w true c.send.result _ c.turn_after.ensures c.send.ensures.failed
