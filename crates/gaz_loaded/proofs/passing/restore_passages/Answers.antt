-- One after another.
use Rattle.std.proofs.Common.{◌∙◌, ◌++◌, [], ◌∷◌, ap, refl, subst, sym, take}
use Rattle.std.proofs.lemmas.List.{take_more}
use Rattle.gaz_shelf.specs.Mem.{content_in}
use Rattle.gaz_loaded.specs.Restoring.{ArePutBack}
use Rattle.gaz_loaded.proofs.PutBack.{back_more}
use Rattle.gaz_loaded.proofs.passing.restore_passages.Goals as goal

pub loop-passage-init : goal.loop-passage-init
loop-passage-init c = record { idle = c.requires; files = refl; restored = refl }

pub loop-passage-preserved : goal.loop-passage-preserved
loop-passage-preserved c =
    let code = c.args.code in
    let passages = c.args.passages.now in
    let i = c.loop-passage.passage-index in
    let passage = c.passage-item.result in
    let inv = c.loop-passage.invariant in
    let next = c.restore_passage.ensures in
    let k = content_in c.args.shelf.now in
    let m = content_in c.loop-passage.shelf in
    let n = content_in c.restore_passage.new.self in
    record {
      idle = next.idle;
      files = next.files ∙ inv.files;
      restored = subst (λ l. ArePutBack code k.board l n.board) (sym (take_more passages i passage c.loop-passage-test.true ∙ ap (λ z. take i passages ++ z ∷ []) (sym c.passage-item.is)))
          (back_more code k.board m.board n.board (take i passages) passage inv.restored c.in_ok-restore_passage.ensures.ok);
    }
