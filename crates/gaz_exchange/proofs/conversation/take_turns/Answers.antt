use Rattle.std.proofs.Common.{◌∙◌, ap, arith, refl}
use Rattle.gaz_steps.specs.Hubs.{door_of}
use Rattle.gaz_exchange.proofs.TurnFacts.{turn_at}
use Rattle.gaz_exchange.proofs.ConversationEnds.{finishes}
use Rattle.gaz_exchange.proofs.ConversationFacts.{ends_closed, ends_most, ends_over, so_far_more, so_far_none, stops}
use Rattle.gaz_exchange.proofs.FailureFacts.{finish_fault}
use Rattle.gaz_exchange.proofs.conversation.take_turns.Goals as goal

pub loop-n-init : goal.loop-n-init
loop-n-init g c = (so_far_none _ _ _ _ _ _ _ _ c.requires.unread, refl)

pub returns-in-Closed-clause-conversation : goal.returns-in-Closed-clause-conversation
returns-in-Closed-clause-conversation g c = finishes _ _ _ _ _ _ _ _ _ _ _ _ c.finish.ensures.kept (ends_closed _ _ _ _ _ _ _ _ _ _ _ _ _ _ _ _ _ _ _ c.loop-n.invariant.0 c.loop-n-test.true (turn_at _ _ _ _ _ _ _ (ap door_of c.loop-n.invariant.1) c.in-Closed.ensures.turn)) c.finish.result c.finish.ensures.finished

pub returns-in-Over-clause-conversation : goal.returns-in-Over-clause-conversation
returns-in-Over-clause-conversation g c = ends_over _ _ _ _ _ _ _ _ _ _ _ _ _ _ _ _ _ _ _ c.loop-n.invariant.0 c.loop-n-test.true (turn_at _ _ _ _ _ _ _ (ap door_of c.loop-n.invariant.1) c.in-Over.ensures.turn)

pub returns-in-Stopped-clause-conversation : goal.returns-in-Stopped-clause-conversation
returns-in-Stopped-clause-conversation g c = stops _ _ _ _ _ _ _ _ _ _ _ _ _ _ _ _ _ _ _ c.loop-n.invariant.0 c.loop-n-test.true c.in-Stopped.cause (turn_at _ _ _ _ _ _ _ (ap door_of c.loop-n.invariant.1) c.in-Stopped.ensures.turn)

pub loop-n-preserved : goal.loop-n-preserved
loop-n-preserved g c = (so_far_more _ _ _ _ _ _ _ _ _ _ _ _ _ _ _ _ _ _ _ c.loop-n.invariant.0 c.loop-n-test.true (turn_at _ _ _ _ _ _ _ (ap door_of c.loop-n.invariant.1) c.in-Answered.ensures.turn), c.in-Answered.ensures.register ∙ c.loop-n.invariant.1)

pub returns-clause-conversation : goal.returns-clause-conversation
returns-clause-conversation g c = ends_most _ _ _ _ _ _ _ _ _ _ _ _ _ c.loop-n.invariant.0 (omega (arith, c.loop-n-test.false)) (omega (arith, c.loop-n.auto.n-end))

pub returns-in-Closed-clause-failed : goal.returns-in-Closed-clause-failed
returns-in-Closed-clause-failed g c = finish_fault g.R.Source.failed g.W.Sink.failed _ _ _ _ c.finish.result c.finish.ensures.finished c.finish.ensures.failed
