use Rattle.std.proofs.Common.{refl}
use Rattle.gaz_exchange.proofs.FailureFacts.{stopped_either}
use Rattle.gaz_exchange.proofs.TurnFacts.{turn_of_answer, turn_of_end, turn_of_failure, turn_of_refusal}
use Rattle.gaz_exchange.proofs.turn.take_turn.Goals as goal

pub returns-in-Request-clause-turn : goal.returns-in-Request-clause-turn
returns-in-Request-clause-turn g c =
    let (read, eaten, (came, counted)) = c.in-Request.ensures.read in
    let (h, begins, call, closing) = came in
    turn_of_answer _ c.args.is_last _ _ _ _ _ read _ _ _ _ _ _ _ _ _ c.in-Request.request h _ c.in-Request.ensures.stay eaten c.in-Request.ensures.written refl begins call closing counted c.answer-turn.ensures.answered

pub returns-in-Refused-clause-turn : goal.returns-in-Refused-clause-turn
returns-in-Refused-clause-turn g c =
    let (read, eaten, (why, counted)) = c.in-Refused.ensures.read in
    turn_of_refusal _ c.args.is_last _ _ _ _ _ read _ _ _ _ _ _ _ _ _ _ c.in-Refused.ensures.stay eaten c.in-Refused.ensures.written refl why counted c.refuse.ensures.refused

pub returns-in-Failed-clause-turn : goal.returns-in-Failed-clause-turn
returns-in-Failed-clause-turn g c =
    let (read, eaten, (short, counted)) = c.in-Failed.ensures.read in
    turn_of_failure _ c.args.is_last _ _ _ _ _ read _ _ _ _ _ _ c.in-Failed.cause c.in-Failed.ensures.stay eaten c.in-Failed.ensures.written short counted

pub returns-in-Request-clause-failed : goal.returns-in-Request-clause-failed
returns-in-Request-clause-failed g c = stopped_either g.R.Source.failed g.W.Sink.failed c.next_request.new.r c.answer-turn.new.w c.answer-turn.result c.answer-turn.ensures.failed

pub returns-in-Refused-clause-failed : goal.returns-in-Refused-clause-failed
returns-in-Refused-clause-failed g c = stopped_either g.R.Source.failed g.W.Sink.failed c.next_request.new.r c.refuse.new.w c.refuse.result c.refuse.ensures.failed

pub returns-in-Over-clause-turn : goal.returns-in-Over-clause-turn
returns-in-Over-clause-turn g c =
    let (read, eaten, (over, counted)) = c.in-Over.ensures.read in
    turn_of_end _ c.args.is_last _ _ _ _ _ read _ _ _ _ _ _ c.in-Over.ensures.stay eaten c.in-Over.ensures.written over.0 over.1 counted
