use Rattle.std.proofs.Common.{◌<◌, length, arith}
use Rattle.gaz_changefile.proofs.Written.{behind, changes_more, no_lines}
use Rattle.gaz_changefile.proofs.write.add_changes.Goals as goal

pub loop-i-init : goal.loop-i-init
loop-i-init c = no_lines c.args.out.now.items

pub loop-i-preserved : goal.loop-i-preserved
loop-i-preserved c =
    let bound : c.loop-i.i < length c.args.changes.now = omega arith in
    rw (changes_more c.args.changes.now c.loop-i.i c.index-changes-i.result bound, ← c.index-changes-i.is)
    (behind c.args.out.now.items _ _ _ _ c.loop-i.invariant c.in_ok-add_change.ensures)
