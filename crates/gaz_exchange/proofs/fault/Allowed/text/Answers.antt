use Rattle.std.proofs.Common.{sym}
use Rattle.std.specs.Fmt.{digits}
use Rattle.gaz_exchange.specs.Replies.{message, reply_text}
use Rattle.gaz_exchange.specs.declared.fault.Fault.TheVariants.{BadMethod}
use Rattle.gaz_exchange.specs.declared.reply.Reply.TheVariants.{Refused}
use Rattle.gaz_exchange.proofs.fault.Allowed.text.Goals as goal

pub returns-then-is_last : goal.returns-then-is_last
unfolding reply_text message digits
returns-then-is_last c = λ i. reply_text (Refused (BadMethod (sym c.in-Get.is i))) (sym c.if-is_last.true i)

pub returns-else-is_last : goal.returns-else-is_last
unfolding reply_text message digits
returns-else-is_last c = λ i. reply_text (Refused (BadMethod (sym c.in-Get.is i))) (sym c.if-is_last.false i)

pub returns-then-is_last-2 : goal.returns-then-is_last-2
unfolding reply_text message digits
returns-then-is_last-2 c = λ i. reply_text (Refused (BadMethod (sym c.in-GetAndPost.is i))) (sym c.if-is_last-2.true i)

pub returns-else-is_last-2 : goal.returns-else-is_last-2
unfolding reply_text message digits
returns-else-is_last-2 c = λ i. reply_text (Refused (BadMethod (sym c.in-GetAndPost.is i))) (sym c.if-is_last-2.false i)
