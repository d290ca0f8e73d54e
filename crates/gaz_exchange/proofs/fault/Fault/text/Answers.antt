use Rattle.std.proofs.Common.{sym}
use Rattle.std.specs.Fmt.{digits}
use Rattle.gaz_exchange.specs.Replies.{message, reply_text}
use Rattle.gaz_exchange.specs.declared.reply.Reply.TheVariants.{Refused}
use Rattle.gaz_exchange.proofs.fault.Fault.text.Goals as goal

pub returns-then-is_last : goal.returns-then-is_last
unfolding reply_text message digits
returns-then-is_last c = λ i. reply_text (Refused (sym c.in-NotThere.is i)) (sym c.if-is_last.true i)

pub returns-else-is_last : goal.returns-else-is_last
unfolding reply_text message digits
returns-else-is_last c = λ i. reply_text (Refused (sym c.in-NotThere.is i)) (sym c.if-is_last.false i)

pub returns-then-is_last-2 : goal.returns-then-is_last-2
unfolding reply_text message digits
returns-then-is_last-2 c = λ i. reply_text (Refused (sym c.in-BadRequest.is i)) (sym c.if-is_last-2.true i)

pub returns-else-is_last-2 : goal.returns-else-is_last-2
unfolding reply_text message digits
returns-else-is_last-2 c = λ i. reply_text (Refused (sym c.in-BadRequest.is i)) (sym c.if-is_last-2.false i)

pub returns-then-is_last-3 : goal.returns-then-is_last-3
unfolding reply_text message digits
returns-then-is_last-3 c = λ i. reply_text (Refused (sym c.in-NoRoute.is i)) (sym c.if-is_last-3.true i)

pub returns-else-is_last-3 : goal.returns-else-is_last-3
unfolding reply_text message digits
returns-else-is_last-3 c = λ i. reply_text (Refused (sym c.in-NoRoute.is i)) (sym c.if-is_last-3.false i)

pub returns-then-is_last-4 : goal.returns-then-is_last-4
unfolding reply_text message digits
returns-then-is_last-4 c = λ i. reply_text (Refused (sym c.in-LengthRequired.is i)) (sym c.if-is_last-4.true i)

pub returns-else-is_last-4 : goal.returns-else-is_last-4
unfolding reply_text message digits
returns-else-is_last-4 c = λ i. reply_text (Refused (sym c.in-LengthRequired.is i)) (sym c.if-is_last-4.false i)

pub returns-then-is_last-5 : goal.returns-then-is_last-5
unfolding reply_text message digits
returns-then-is_last-5 c = λ i. reply_text (Refused (sym c.in-NotReceived.is i)) (sym c.if-is_last-5.true i)

pub returns-else-is_last-5 : goal.returns-else-is_last-5
unfolding reply_text message digits
returns-else-is_last-5 c = λ i. reply_text (Refused (sym c.in-NotReceived.is i)) (sym c.if-is_last-5.false i)

pub returns-then-is_last-6 : goal.returns-then-is_last-6
unfolding reply_text message digits
returns-then-is_last-6 c = λ i. reply_text (Refused (sym c.in-Unsettled.is i)) (sym c.if-is_last-6.true i)

pub returns-else-is_last-6 : goal.returns-else-is_last-6
unfolding reply_text message digits
returns-else-is_last-6 c = λ i. reply_text (Refused (sym c.in-Unsettled.is i)) (sym c.if-is_last-6.false i)
