-- One custodian after another.
use Rattle.std.proofs.Common.{◌∙◌, ◌++◌, [], ◌∷◌, ap, subst, sym, take}
use Rattle.std.proofs.lemmas.List.{take_all, take_more}
use Rattle.gaz_shelf.specs.Mem.{content_in}
use Rattle.gaz_loaded.specs.Files.{CopiesAll}
use Rattle.gaz_loaded.proofs.Custodian.{copies_more, copies_none}
use Rattle.gaz_loaded.proofs.Reading.{reads_nothing, reads_then}
use Rattle.gaz_loaded.proofs.custodians.copy_custodians.Goals as goal

pub loop-code-init : goal.loop-code-init
loop-code-init g c =
    let a = g.L.Shelf.seen c.args.lower.now in
    record { reads = reads_nothing a; idle = c.requires; copies = copies_none a (content_in c.args.shelf.now) }

pub loop-code-preserved : goal.loop-code-preserved
loop-code-preserved g c =
    let a = g.L.Shelf.seen c.args.lower.now in
    let b = g.L.Shelf.seen c.loop-code.lower in
    let d = g.L.Shelf.seen c.copy_custodian.new.lower in
    let k = content_in c.args.shelf.now in
    let m = content_in c.loop-code.shelf in
    let n = content_in c.copy_custodian.new.shelf in
    let codes = c.args.codes.now in
    let i = c.loop-code.code-index in
    let code = c.code-item.result in
    let inv = c.loop-code.invariant in
    let next = c.in_ok-copy_custodian.ensures in
    record {
      reads = reads_then a b d inv.reads next.reads;
      idle = next.idle;
      copies = subst (λ l. CopiesAll l a d k n) (sym (take_more codes i code c.loop-code-test.true ∙ ap (λ z. take i codes ++ z ∷ []) (sym c.code-item.is)))
          (copies_more (take i codes) code a b d k m n inv.reads next.reads inv.copies next.copies);
    }

pub returns-clause-copies : goal.returns-clause-copies
returns-clause-copies g c =
    subst (λ l. CopiesAll l (g.L.Shelf.seen c.args.lower.now) (g.L.Shelf.seen c.loop-code.lower) (content_in c.args.shelf.now) (content_in c.loop-code.shelf)) (take_all c.loop-code.code-index c.args.codes.now c.loop-code-test.false) c.loop-code.invariant.copies
