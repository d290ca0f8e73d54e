use Rattle.std.proofs.Common.{◌<◌, ◌++◌, codes, length, arith}
use Rattle.gaz_exchange.specs.Replies.{closed_text}
use Rattle.gaz_exchange.proofs.BodyFacts.{behind, texts_more}
use Rattle.gaz_exchange.proofs.closed.add_others.Goals as goal

pub loop-closed-preserved : goal.loop-closed-preserved
loop-closed-preserved c =
    let bound : c.loop-closed.closed-index < length c.args.others.now = omega arith in
    rw (texts_more (λ c. codes "," ++ closed_text c) c.args.others.now c.loop-closed.closed-index c.closed-item.result bound, ← c.closed-item.is)
    (behind _ _ _ _ _ _ _ c.loop-closed.invariant c.in_ok-push_str.ensures.bytes c.in_ok-add_closed.ensures)
