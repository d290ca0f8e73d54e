-- So far all of these custodians is there.
use Rattle.std.proofs.Common.{◌≡◌, take}
use Rattle.gaz_keeper.specs.Keeper.{Idle}
use Rattle.gaz_shelf.specs.Mem.{content_in, seen_in}
use Rattle.gaz_loaded.specs.Files.{CopiesAll, OnlyReads}
use Rattle.gaz_loaded.proofs.custodians.copy_custodians.Given as goal

abbrev pub invariant-loop-code : goal.invariant-loop-code
invariant-loop-code g l =
    let a = g.L.Shelf.seen l.fn.lower in
    let b = g.L.Shelf.seen l.lower in
    record {
      reads : OnlyReads a b;
      idle : (seen_in l.shelf).progress ≡ Idle;
      copies : CopiesAll (take l.code-index l.codes) a b (content_in l.fn.shelf) (content_in l.shelf);
    }
