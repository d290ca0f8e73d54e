use Rattle.std.proofs.Common.{arith}
use Rattle.gaz_keeper.proofs.Faults.{passed_on}
use Rattle.gaz_calls.proofs.Answered.{asked_fault}
use Rattle.gaz_calls.proofs.Halving.{at_first, at_last, goes_further, goes_past}
use Rattle.gaz_calls.proofs.tables.Tables.bounds.Goals as goal

pub loop-next-init : goal.loop-next-init
loop-next-init g c = record { asks = at_first c.args.self.now c.args.code; order = omega arith; last = omega arith }

pub loop-next-preserved : goal.loop-next-preserved
loop-next-preserved g c = record {
  asks = goes_further _ _ _ c.args.code c.loop-next.reached c.loop-next.next
      c.is_judged.result c.loop-next.invariant.asks c.is_judged.ensures c.in_ok-judged.judged c.in_ok-judged.was c.if-not-judged.false;
  order = omega arith;
  last = omega arith;
}

pub returns-then-not-judged-clause-asks : goal.returns-then-not-judged-clause-asks
returns-then-not-judged-clause-asks g c =
    goes_past _ _ _ c.args.code c.loop-next.reached c.loop-next.next
    c.is_judged.result c.loop-next.invariant.asks c.is_judged.ensures c.in_ok-judged.judged c.in_ok-judged.was c.if-not-judged.true

pub returns-in_err-judged-clause-asks : goal.returns-in_err-judged-clause-asks
returns-in_err-judged-clause-asks g c = rw (passed_on _ _ c.from_residual.ensures.1) (asked_fault _ _ _ _ c.is_judged.result _ _ _ _ c.loop-next.invariant.asks c.is_judged.ensures c.in_err-judged.was)

pub returns-clause-asks : goal.returns-clause-asks
returns-clause-asks g c = at_last _ _ c.args.code c.loop-next.reached c.loop-next.invariant.asks
