-- So far these are there.
use Rattle.std.proofs.Common.{◌≡◌, take}
use Rattle.gaz_keeper.specs.Keeper.{Idle}
use Rattle.gaz_shelf.specs.Mem.{content_in, seen_in}
use Rattle.gaz_loaded.specs.Files.{AreThere, Copies, OnlyReads}
use Rattle.gaz_loaded.proofs.copying.copy_volumes.Given as goal

abbrev pub invariant-loop-volume : goal.invariant-loop-volume
invariant-loop-volume g l =
    let a = g.L.Shelf.seen l.fn.lower in
    let b = g.L.Shelf.seen l.lower in
    record {
      reads : OnlyReads a b;
      idle : (seen_in l.shelf).progress ≡ Idle;
      copies : Copies l.code a b (content_in l.fn.shelf) (content_in l.shelf);
      there : AreThere l.code (take l.volume-index l.volumes) (content_in l.shelf).files;
    }
