use Rattle.std.proofs.Common.{codes, inl}
use Rattle.gaz_exchange.specs.Replies.{reply_text}
use Rattle.gaz_exchange.proofs.BodyFacts.{behind_head, is_other, other_behind_head, takes_other}
use Rattle.gaz_exchange.proofs.send.send_told.Goals as goal

pub returns-in-Extract-clause-sent : goal.returns-in-Extract-clause-sent
unfolding reply_text
returns-in-Extract-clause-sent g c =
    rw (c.requires.told, c.in-Extract.is, ← c.as_slice.ensures)
    (record { text = _; told = inl (behind_head (codes "200 OK") (codes "text/csv") c.as_slice.result.now c.args.is_last); put = c.put_message.ensures.put })

pub told_body-requires : goal.told_body-requires
told_body-requires g c = is_other c.args.told.now c.in_default.not-Extract

pub put_made-requires : goal.put_made-requires
unfolding reply_text
put_made-requires g c =
    let other = is_other c.args.told.now c.in_default.not-Extract in
    rw c.requires.told (record { takes = takes_other _ other; whole = other_behind_head _ (λ b. b.items) c.args.told.now c.args.is_last other c.told_body.ensures })
