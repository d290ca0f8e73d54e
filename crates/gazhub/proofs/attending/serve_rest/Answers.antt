use Rattle.std.proofs.Common.{◌≡◌, arith}
use Rattle.gazhub.specs.Serving.{More, NoMore, Untold, Whole}
use Rattle.gazhub.proofs.attending.serve_rest.Goals as goal

pub loop-opening-init : goal.loop-opening-init
loop-opening-init g c = (λ after ending rest. rest, omega arith)

pub returns-then-left-eq0 : goal.returns-then-left-eq0
returns-then-left-eq0 g c =
    let e : c.loop-opening.left ≡ 0 = omega (arith, c.if-left-eq0.true) in
    c.loop-opening.invariant.0 _ _ (rw e (Whole _))

pub returns-in-Ok-None : goal.returns-in-Ok-None
returns-in-Ok-None g c = c.loop-opening.invariant.0 _ _ (Untold c.loop-opening.left _ _ (rw c.in-Ok-None.field-0-is at c.in-Ok-None.ensures.served))

pub returns-in-Err : goal.returns-in-Err
returns-in-Err g c = c.loop-opening.invariant.0 _ _ (NoMore c.loop-opening.left _ _ c.in-Err.why c.in-Err.ensures.served)

pub loop-opening-preserved : goal.loop-opening-preserved
loop-opening-preserved g c =
    let some = rw c.in-Ok-Some.field-0-is at c.in-Ok-Some.ensures.some in (
      λ after ending rest. c.loop-opening.invariant.0 after ending (More c.loop-opening.left c.in-Ok-Some.served _ _ after ending (rw c.in-Ok-Some.field-0-is at c.in-Ok-Some.ensures.served) rest),
      omega (arith, some.0, some.1 (omega (arith, c.if-left-eq0.false)), c.loop-opening.invariant.1),
    )

pub returns : goal.returns
returns g c =
    let e : c.loop-opening.left ≡ 0 = omega (arith, c.loop-opening-test.false, c.loop-opening.invariant.1) in
    c.loop-opening.invariant.0 _ _ (rw e (Whole _))
