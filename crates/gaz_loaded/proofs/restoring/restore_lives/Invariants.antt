-- So far these are restored.
use Rattle.std.proofs.Common.{◌≡◌, take}
use Rattle.gaz_keeper.specs.Keeper.{Idle}
use Rattle.gaz_shelf.specs.Mem.{content_in, seen_in}
use Rattle.gaz_loaded.specs.Restoring.{AreRestored}
use Rattle.gaz_loaded.proofs.restoring.restore_lives.Given as goal

abbrev pub invariant-loop-life : goal.invariant-loop-life
invariant-loop-life l =
    let k = content_in l.fn.shelf in
    let m = content_in l.shelf in
    record {
      idle : (seen_in l.shelf).progress ≡ Idle;
      files : m.files ≡ k.files;
      restored : AreRestored k.board (take l.life-index l.lives) m.board;
    }
