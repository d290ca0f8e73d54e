-- One custodian after another.
use Rattle.std.proofs.Common.{◌∙◌, ◌++◌, [], ◌∷◌, ap, refl, subst, sym, take}
use Rattle.std.proofs.lemmas.List.{take_all, take_more}
use Rattle.gaz_shelf.specs.Mem.{content_in}
use Rattle.gaz_loaded.specs.Restoring.{BringsPassages}
use Rattle.gaz_loaded.proofs.Passed.{passes_more, passes_none}
use Rattle.gaz_loaded.proofs.Reading.{reads_nothing, reads_then}
use Rattle.gaz_loaded.proofs.passing.bring_passages.Goals as goal

pub loop-code-init : goal.loop-code-init
loop-code-init g c =
    let a = g.L.Shelf.seen c.args.lower.now in
    record { reads = reads_nothing a; stays = λ _ _. refl; idle = c.requires; brings = passes_none (g.L.Listed.passages c.args.lower.now) a (content_in c.args.shelf.now) }

pub loop-code-preserved : goal.loop-code-preserved
loop-code-preserved g c =
    let a = g.L.Shelf.seen c.args.lower.now in
    let b = g.L.Shelf.seen c.loop-code.lower in
    let d = g.L.Shelf.seen c.bring_its_passages.new.lower in
    let passages = g.L.Listed.passages c.args.lower.now in
    let now = g.L.Listed.passages c.loop-code.lower in
    let k = content_in c.args.shelf.now in
    let m = content_in c.loop-code.shelf in
    let n = content_in c.bring_its_passages.new.shelf in
    let codes = c.args.codes.now in
    let i = c.loop-code.code-index in
    let code = c.code-item.result in
    let inv = c.loop-code.invariant in
    let next = c.in_ok-bring_its_passages.ensures in
    record {
      reads = reads_then a b d inv.reads next.reads;
      stays = λ stood fine.
          let mid = next.reads.keeps.harm fine in
          next.stays (inv.reads.keeps.stands stood mid) fine ∙ inv.stays stood mid;
      idle = next.idle;
      brings = subst (λ l. BringsPassages l passages a d k n) (sym (take_more codes i code c.loop-code-test.true ∙ ap (λ z. take i codes ++ z ∷ []) (sym c.code-item.is)))
          (passes_more (take i codes) code passages now a b d k m n inv.reads next.reads inv.stays inv.brings next.brings);
    }

pub returns-clause-brings : goal.returns-clause-brings
returns-clause-brings g c =
    subst (λ l. BringsPassages l (g.L.Listed.passages c.args.lower.now) (g.L.Shelf.seen c.args.lower.now) (g.L.Shelf.seen c.loop-code.lower) (content_in c.args.shelf.now) (content_in c.loop-code.shelf)) (take_all c.loop-code.code-index c.args.codes.now c.loop-code-test.false) c.loop-code.invariant.brings
