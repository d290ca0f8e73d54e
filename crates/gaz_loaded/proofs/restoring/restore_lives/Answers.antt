-- One life after another.
use Rattle.std.proofs.Common.{◌∙◌, ◌++◌, [], ◌∷◌, ap, refl, subst, sym, take}
use Rattle.std.proofs.lemmas.List.{take_more}
use Rattle.gaz_shelf.specs.Mem.{content_in}
use Rattle.gaz_loaded.specs.Restoring.{AreRestored}
use Rattle.gaz_loaded.proofs.Brought.{restored_more}
use Rattle.gaz_loaded.proofs.restoring.restore_lives.Goals as goal

pub loop-life-init : goal.loop-life-init
loop-life-init c = record { idle = c.requires.idle; files = refl; restored = refl }

pub loop-life-preserved : goal.loop-life-preserved
loop-life-preserved c =
    let lives = c.args.lives.now in
    let i = c.loop-life.life-index in
    let life = c.life-item.result in
    let inv = c.loop-life.invariant in
    let next = c.in_ok-restore_life.ensures in
    let k = content_in c.args.shelf.now in
    let m = content_in c.loop-life.shelf in
    let n = content_in c.restore_life.new.shelf in
    record {
      idle = next.idle;
      files = next.files ∙ inv.files;
      restored = subst (λ l. AreRestored k.board l n.board) (sym (take_more lives i life c.loop-life-test.true ∙ ap (λ z. take i lives ++ z ∷ []) (sym c.life-item.is)))
          (restored_more k.board m.board n.board (take i lives) life inv.restored next.restored);
    }
