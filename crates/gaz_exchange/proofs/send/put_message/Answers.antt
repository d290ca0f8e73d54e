use Rattle.gaz_exchange.proofs.StreamFacts.{put_behind, put_short}
use Rattle.gaz_exchange.proofs.send.put_message.Goals as goal

pub returns-then-write_head-clause-put : goal.returns-then-write_head-clause-put
returns-then-write_head-clause-put g c = put_behind _ _ _ _ c.args.body.now c.write_all.result (rw c.if-write_head.true at c.write_head.ensures.put) c.write_all.ensures.put

pub returns-else-write_head-clause-put : goal.returns-else-write_head-clause-put
returns-else-write_head-clause-put g c =
    let begun = rw c.if-write_head.false at c.write_head.ensures.put in
    rw c.if-write_head.false (put_short _ _ _ c.args.body.now begun)
