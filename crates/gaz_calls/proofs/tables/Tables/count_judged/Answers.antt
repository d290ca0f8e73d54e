use Rattle.std.proofs.Common.{◌+◌, ◌-◌, ◌/◌, arith}
use Rattle.gaz_keeper.proofs.Faults.{passed_on}
use Rattle.gaz_calls.proofs.Answered.{asked_fault}
use Rattle.gaz_calls.proofs.Halving.{bounded, is_beyond, is_reached}
use Rattle.gaz_calls.proofs.tables.Tables.count_judged.Goals as goal

pub loop-reached-init : goal.loop-reached-init
loop-reached-init g c = record { asks = bounded _ _ c.args.code c.bounds.result c.in_ok-bounds.bounds c.bounds.ensures.asks c.in_ok-bounds.was; order = c.in_ok-bounds.ensures.order.0; last = c.in_ok-bounds.ensures.order.1 }

pub loop-reached-preserved-then-judged : goal.loop-reached-preserved-then-judged
loop-reached-preserved-then-judged g c = record {
  asks = is_reached _ _ _ c.args.code c.loop-reached.reached c.loop-reached.beyond (c.loop-reached.reached + (c.loop-reached.beyond - c.loop-reached.reached) / 2)
      c.is_judged.result c.loop-reached.invariant.asks c.is_judged.ensures c.in_ok-judged.judged c.in_ok-judged.was c.if-judged.true;
  order = omega arith;
  last = omega arith;
}

pub loop-reached-preserved : goal.loop-reached-preserved
loop-reached-preserved g c = record {
  asks = is_beyond _ _ _ c.args.code c.loop-reached.reached c.loop-reached.beyond (c.loop-reached.reached + (c.loop-reached.beyond - c.loop-reached.reached) / 2)
      c.is_judged.result c.loop-reached.invariant.asks c.is_judged.ensures c.in_ok-judged.judged c.in_ok-judged.was c.if-judged.false;
  order = omega arith;
  last = omega arith;
}

pub returns-in_err-judged : goal.returns-in_err-judged
returns-in_err-judged g c = rw (passed_on _ _ c.from_residual-in_err-judged.ensures.1) (asked_fault _ _ _ _ c.is_judged.result _ _ _ _ c.loop-reached.invariant.asks c.is_judged.ensures c.in_err-judged.was)
