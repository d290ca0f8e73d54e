use Rattle.gaz_exchange.proofs.StreamLaws.{bytes_tell_requests_holds}
use Rattle.gaz_exchange.proofs.laws.bytes_tell_requests.Goals as goal

pub returns : goal.returns
returns c = bytes_tell_requests_holds
