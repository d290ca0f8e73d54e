use Rattle.std.proofs.Common.{◌<◌, length, arith}
use Rattle.gaz_changefile.proofs.Written.{bases_more, behind, no_lines}
use Rattle.gaz_changefile.proofs.write.add_bases.Goals as goal

pub loop-basis-init : goal.loop-basis-init
loop-basis-init c = no_lines c.args.out.now.items

pub loop-basis-preserved : goal.loop-basis-preserved
loop-basis-preserved c =
    let bound : c.loop-basis.basis-index < length c.args.bases.now = omega arith in
    rw (bases_more c.args.bases.now c.loop-basis.basis-index c.basis-item.result bound, ← c.basis-item.is)
    (behind c.args.out.now.items _ _ _ _ c.loop-basis.invariant c.in_ok-add_basis.ensures)
