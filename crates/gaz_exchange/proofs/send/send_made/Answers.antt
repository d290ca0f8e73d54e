use Rattle.std.proofs.Common.{codes, refl}
use Rattle.gaz_exchange.specs.Replies.{reply_text}
use Rattle.gaz_exchange.proofs.BodyFacts.{made_behind_head}
use Rattle.gaz_exchange.proofs.send.send_made.Goals as goal

pub put_made-requires : goal.put_made-requires
unfolding reply_text
put_made-requires g c = record { takes = rw c.in-New.is refl; whole = rw c.in-New.is (made_behind_head _ (λ b. b.items) (codes "201 Created") (codes "application/json") _ c.args.is_last c.outcome_body.ensures) }

pub put_made-requires-in-Repeat : goal.put_made-requires-in-Repeat
unfolding reply_text
put_made-requires-in-Repeat g c = record { takes = rw c.in-Repeat.is refl; whole = rw c.in-Repeat.is (made_behind_head _ (λ b. b.items) (codes "200 OK") (codes "application/json") _ c.args.is_last c.outcome_body-in-Repeat.ensures) }

pub put_made-requires-in-Taken : goal.put_made-requires-in-Taken
unfolding reply_text
put_made-requires-in-Taken g c = record { takes = rw c.in-Taken.is refl; whole = rw c.in-Taken.is (made_behind_head _ (λ b. b.items) (codes "409 Conflict") (codes "application/json") _ c.args.is_last c.taken_body.ensures) }

pub unreachable-requires : goal.unreachable-requires
unreachable-requires g c = c.requires.made _ c.in-Refused.is
