-- What came of the next connection: nobody, or a peer, with whom a conversation was held.
use Rattle.std.proofs.Common.{Bool, [], ◌∷◌, refl, subst}
use Rattle.gaz_exchange.proofs.FailureFacts.{never_stops}
use Rattle.gaz_exchange.specs.Conversing.{transfer}
use Rattle.gaz_stored.specs.Meetings.{Left, Missed}
use Rattle.gaz_stored.specs.Serving.{Rested, Talked, met_through}
use Rattle.gaz_stored.proofs.connections.serve_next.Goals as goal

pub returns-in_default : goal.returns-in_default
returns-in_default g c = record {
  met = Missed ∷ [];
  are_met = (c.accept.new.self, c.in_default.ensures, refl);
  whole = λ reads writes. tt;
  then = Rested refl refl;
}

pub returns : goal.returns
returns g c =
    let peer = c.in-Some in
    let held = c.converse-ended in
    let through = transfer g.P.Reader.Source.remaining g.P.Writer.Sink.contents peer.r held.new.r peer.w held.new.w in
    record {
      met = met_through through held.result;
      are_met = (
        c.accept.new.self,
        peer.ensures,
        (c.leave.new.self, subst (λ (whole : Bool). g.P.Peers.meets c.accept.new.self (Left through.left through.holds whole) c.leave.new.self) c.is_ok.ensures.value c.leave.ensures, refl),
      );
      whole = λ reads writes. (never_stops g.P.Reader.Source.failed g.P.Writer.Sink.failed reads writes held.new.r held.new.w held.result held.ensures.failed, tt);
      then = Talked (record { through = through; ended = held.result; conversation = held.ensures.conversation.conversation; register = held.ensures.register; met_is = refl });
    }
