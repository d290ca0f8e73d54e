-- So far these are put back.
use Rattle.std.proofs.Common.{◌≡◌, take}
use Rattle.gaz_keeper.specs.Keeper.{Idle}
use Rattle.gaz_shelf.specs.Mem.{content_in, seen_in}
use Rattle.gaz_loaded.specs.Restoring.{ArePutBack}
use Rattle.gaz_loaded.proofs.passing.restore_passages.Given as goal

abbrev pub invariant-loop-passage : goal.invariant-loop-passage
invariant-loop-passage l =
    let k = content_in l.fn.shelf in
    let m = content_in l.shelf in
    record {
      idle : (seen_in l.shelf).progress ≡ Idle;
      files : m.files ≡ k.files;
      restored : ArePutBack l.code k.board (take l.passage-index l.passages) m.board;
    }
