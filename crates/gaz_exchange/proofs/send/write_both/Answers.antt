use Rattle.gaz_exchange.proofs.StreamFacts.{put_behind, put_short}
use Rattle.gaz_exchange.proofs.send.write_both.Goals as goal

pub returns-then-write_all-clause-put : goal.returns-then-write_all-clause-put
returns-then-write_all-clause-put g c = put_behind _ _ _ c.args.text.now c.args.behind.now c.write_all-then-write_all.result (rw c.if-write_all.true at c.write_all.ensures.put) c.write_all-then-write_all.ensures.put

pub returns-else-write_all-clause-put : goal.returns-else-write_all-clause-put
returns-else-write_all-clause-put g c =
    let begun = rw c.if-write_all.false at c.write_all.ensures.put in
    rw c.if-write_all.false (put_short _ _ c.args.text.now c.args.behind.now begun)
