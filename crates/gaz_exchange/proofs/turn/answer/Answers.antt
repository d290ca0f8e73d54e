-- The hub is asked, and what it says is written.
use Rattle.std.proofs.Common.{◌≡◌, ◌||◌, ◌∙◌, ap, subst, sym}
use Rattle.gaz_exchange.specs.Sending.{IsSent}
use Rattle.gaz_exchange.specs.Turns.{turn_of}
use Rattle.gaz_exchange.proofs.FailureFacts.{stopped_writing}
use Rattle.gaz_exchange.proofs.turn.answer.Goals as goal
use Rattle.gaz_exchange.proofs.turn.answer.Goals.{else-request, then-request}

pub returns-clause-answered : goal.returns-clause-answered
returns-clause-answered g c =
    let whole = c.send.result in
    let reply = c.ask-reply.result in
    let ends : c.if-request.ends ≡ (c.args.request.now.closing || c.args.is_last) = elim c.if-request.branch [
      | then-request w ↦ w.ends-is ∙ w.if-request.true ∙ sym (ap (λ b. b || c.args.is_last) w.if-request.true)
      | else-request w ↦ w.ends-is ∙ sym (ap (λ b. b || c.args.is_last) w.if-request.false)
    ] in
    record {
      reply = reply;
      whole = whole;
      asked = c.ask-reply.ensures.asked;
      sent = subst (λ b. IsSent (g.W.Sink.contents c.args.w.now) (g.W.Sink.contents c.send.new.w) reply b whole) ends c.send.ensures.sent;
      turn_is = c.turn_after.ensures ∙ ap (λ b. turn_of b whole) ends;
    }

pub returns-clause-failed : goal.returns-clause-failed
returns-clause-failed g c = stopped_writing g.W.Sink.failed c.send.new.w c.if-request.ends c.send.result _ c.turn_after.ensures c.send.ensures.failed
