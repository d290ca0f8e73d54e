-- One page of volumes after another, until there is none.
use Rattle.std.proofs.Common.{◌≡◌, ◌∙◌, ap, refl, subst, sym}
use Rattle.std.specs.Prelude.{None, Some}
use Rattle.gaz_shelf.specs.Mem.{content_in}
use Rattle.gaz_loaded.specs.Files.{AreThere}
use Rattle.gaz_loaded.specs.Telling.{last_of}
use Rattle.gaz_loaded.proofs.Copied.{copies_nothing, copies_then}
use Rattle.gaz_loaded.proofs.Custodian.{all_of_it, until_next}
use Rattle.gaz_loaded.proofs.Entered.{on_ok}
use Rattle.gaz_loaded.proofs.Reading.{only_reads, reads_then}
use Rattle.gaz_loaded.proofs.custodians.copy_custodian.Goals as goal

pub returns-in_default-clause-copies : goal.returns-in_default-clause-copies
returns-in_default-clause-copies g c =
    let a = g.L.Shelf.seen c.args.lower.now in
    let b = g.L.Shelf.seen c.loop.lower in
    let d = g.L.Shelf.seen c.volumes_above.new.self in
    let e = g.L.Shelf.seen c.compare.new.lower in
    let volumes = c.in_ok-volumes.volumes.items in
    let inv = c.loop.invariant in
    let is : last_of volumes ≡ None = ap last_of (sym c.deref.ensures.value) ∙ sym c.in_default.ensures.value in
    on_ok c.compare.result
    (all_of_it c.args.code c.loop.above a b d e (content_in c.args.shelf.now) (content_in c.loop.shelf) (content_in c.compare.new.shelf) volumes inv.reads (only_reads b d c.volumes_above.result _ c.volumes_above.ensures) c.compare.ensures.reads c.in_ok-volumes.ensures.right inv.until is inv.copies c.compare.ensures.same)
    c.compare.ensures.judged

pub loop-preserved : goal.loop-preserved
loop-preserved g c =
    let a = g.L.Shelf.seen c.args.lower.now in
    let b = g.L.Shelf.seen c.loop.lower in
    let d = g.L.Shelf.seen c.volumes_above.new.self in
    let e = g.L.Shelf.seen c.copy_volumes.new.lower in
    let k = content_in c.args.shelf.now in
    let m = content_in c.loop.shelf in
    let n = content_in c.copy_volumes.new.shelf in
    let volumes = c.in_ok-volumes.volumes.items in
    let inv = c.loop.invariant in
    let next = c.in_ok-copy_volumes.ensures in
    let reads = only_reads b d c.volumes_above.result _ c.volumes_above.ensures in
    let is : last_of volumes ≡ Some c.number-above.result = ap last_of (sym c.deref.ensures.value) ∙ sym c.in-Some.ensures.value ∙ ap Some (sym c.number-above.ensures.value) in
    record {
      reads = reads_then a b e inv.reads (reads_then b d e reads next.reads);
      idle = next.idle;
      copies = copies_then c.args.code a b e k m n inv.reads (reads_then b d e reads next.reads) inv.copies (copies_then c.args.code b d e m m n reads next.reads (copies_nothing c.args.code b d m m refl) next.copies);
      until = until_next c.args.code c.loop.above a b d e k m n volumes inv.reads reads next.reads c.in_ok-volumes.ensures.right inv.until c.number-above.result is next.copies (subst (λ vs. AreThere c.args.code vs n.files) c.deref-in-loop.ensures.value next.there);
    }
