use Rattle.gaz_exchange.proofs.StreamFacts.{put_behind, put_short}
use Rattle.gaz_exchange.proofs.send.write_head.Goals as goal

pub returns-else-write_both-clause-put : goal.returns-else-write_both-clause-put
returns-else-write_both-clause-put g c =
    let begun = rw (c.if-write_both.false, c.as_bytes.ensures.value, c.as_bytes-2.ensures.value, c.format-size.ensures.text) at c.write_both.ensures.put in
    rw c.if-write_both.false (put_short _ _ _ _ begun)

pub returns-then-write_both-clause-put : goal.returns-then-write_both-clause-put
returns-then-write_both-clause-put g c =
    let begun = rw (c.if-write_both.true, c.as_bytes.ensures.value, c.as_bytes-2.ensures.value, c.format-size.ensures.text) at c.write_both.ensures.put in
    let ended = rw (c.as_bytes-then-write_both.ensures.value, c.end_of.ensures) at c.write_all.ensures.put in
    put_behind _ _ _ _ _ c.write_all.result begun ended
