-- One basis line after another.
use Rattle.std.proofs.Common.{◌≤◌, ap, ◌∙◌, arith}
use Rattle.gaz_keeper.specs.Board.{reached}
use Rattle.gaz_keeper.proofs.Keeping.{keeps_then}
use Rattle.gaz_hub.proofs.Looks.{finds_none, passes_over}
use Rattle.gaz_hub.proofs.looking.first_unreached.Goals as goal

pub loop-basis-preserved : goal.loop-basis-preserved
loop-basis-preserved g c =
    let inv = c.loop-basis.invariant in
    let asked = c.in_ok-reached.ensures in
    let was = g.K.Shelf.seen c.args.keeper.now in
    let d = c.basis-item.result in
    record {
      keeps = keeps_then _ _ _ inv.keeps asked.keeps;
      counted = let a = inv.counted in let b = asked.counts.kept in omega arith;
      trust = λ t. inv.trust (asked.counts.trust t);
      left = λ stood fine.
          let mid = asked.keeps.harm fine in
          let n = asked.right (inv.keeps.stands stood mid) fine ∙ ap (λ k. reached k.board d.custodian) (inv.keeps.content stood mid) in
          let enough : d.volume ≤ reached was.content.board d.custodian = omega (arith, c.if-branch-number.false, c.number.ensures.value, n) in
          passes_over was.content.board c.args.bases.now c.loop-basis.basis-index d c.loop-basis-test.true c.basis-item.is enough ∙ inv.left stood mid;
    }

pub returns : goal.returns
returns g c =
    let inv = c.loop-basis.invariant in
    record {
      keeps = inv.keeps;
      right = λ stood fine. finds_none _ c.args.bases.now c.loop-basis.basis-index c.loop-basis-test.false ∙ inv.left stood fine;
      counts = record { kept = inv.counted; store = tt; trust = inv.trust };
    }
