-- One volume after another.
use Rattle.std.proofs.Common.{refl}
use Rattle.gaz_shelf.specs.Mem.{content_in}
use Rattle.gaz_loaded.proofs.Copied.{copies_nothing, copies_then, more_there}
use Rattle.gaz_loaded.proofs.Reading.{reads_nothing, reads_then}
use Rattle.gaz_loaded.proofs.copying.copy_volumes.Goals as goal

pub loop-volume-init : goal.loop-volume-init
loop-volume-init g c =
    let a = g.L.Shelf.seen c.args.lower.now in
    let k = content_in c.args.shelf.now in
    record { reads = reads_nothing a; idle = c.requires; copies = copies_nothing c.args.code a a k k refl; there = λ v no. absurd no }

pub loop-volume-preserved : goal.loop-volume-preserved
loop-volume-preserved g c =
    let a = g.L.Shelf.seen c.args.lower.now in
    let b = g.L.Shelf.seen c.loop-volume.lower in
    let d = g.L.Shelf.seen c.copy_volume.new.lower in
    let k = content_in c.args.shelf.now in
    let m = content_in c.loop-volume.shelf in
    let n = content_in c.copy_volume.new.shelf in
    let inv = c.loop-volume.invariant in
    let next = c.in_ok-copy_volume.ensures in
    record {
      reads = reads_then a b d inv.reads next.reads;
      idle = next.idle;
      copies = copies_then c.args.code a b d k m n inv.reads next.reads inv.copies next.copies;
      there = more_there c.args.code c.args.volumes.now c.loop-volume.volume-index c.volume-item.result m.files n.files c.loop-volume-test.true c.volume-item.is next.copies.grows.files inv.there next.there;
    }
