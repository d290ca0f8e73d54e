-- So far these custodians have what became of their numbers.
use Rattle.std.proofs.Common.{◌≡◌, take}
use Rattle.gaz_keeper.specs.Keeper.{Idle}
use Rattle.gaz_shelf.specs.Mem.{content_in, seen_in}
use Rattle.gaz_loaded.specs.Files.{OnlyReads}
use Rattle.gaz_loaded.specs.Restoring.{BringsPassages}
use Rattle.gaz_loaded.proofs.passing.bring_passages.Given as goal

abbrev pub invariant-loop-code : goal.invariant-loop-code
invariant-loop-code g l =
    let a = g.L.Shelf.seen l.fn.lower in
    let b = g.L.Shelf.seen l.lower in
    let passages = g.L.Listed.passages l.fn.lower in
    record {
      reads : OnlyReads a b;
      stays : a.stands → b.unharmed → g.L.Listed.passages l.lower ≡ passages;
      idle : (seen_in l.shelf).progress ≡ Idle;
      brings : BringsPassages (take l.code-index l.codes) passages a b (content_in l.fn.shelf) (content_in l.shelf);
    }
