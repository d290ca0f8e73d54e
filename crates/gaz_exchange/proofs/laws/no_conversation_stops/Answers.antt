use Rattle.gaz_exchange.proofs.FailureFacts.{never_stops}
use Rattle.gaz_exchange.proofs.laws.no_conversation_stops.Goals as goal

pub returns : goal.returns
returns g c = never_stops g.R.Source.failed g.W.Sink.failed
