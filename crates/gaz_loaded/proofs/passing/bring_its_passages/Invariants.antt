-- So far all that is told up to one of them is put back.
use Rattle.std.proofs.Common.{◌≡◌, List}
use Rattle.std.specs.Prelude.{None}
use Rattle.gaz_keeper.specs.Keeper.{Idle}
use Rattle.gaz_shelf.specs.Mem.{content_in, seen_in}
use Rattle.gaz_loaded.specs.Files.{OnlyReads}
use Rattle.gaz_loaded.specs.Passing.{AreToldInTurn}
use Rattle.gaz_loaded.specs.Restoring.{ArePutBack}
use Rattle.gaz_loaded.specs.declared.listed.Passage.{Passage}
use Rattle.gaz_loaded.proofs.ToldPassages.{place_after}
use Rattle.gaz_loaded.proofs.passing.bring_its_passages.Given as goal

abbrev pub invariant-loop : goal.invariant-loop
invariant-loop g l =
    let a = g.L.Shelf.seen l.fn.lower in
    let b = g.L.Shelf.seen l.lower in
    let k = content_in l.fn.shelf in
    let m = content_in l.shelf in
    record {
      reads : OnlyReads a b;
      idle : (seen_in l.shelf).progress ≡ Idle;
      files : m.files ≡ k.files;
      stays : a.stands → b.unharmed → g.L.Listed.passages l.lower ≡ g.L.Listed.passages l.fn.lower;
      told : List Passage;
      place : place_after None told ≡ l.after;
      turn : a.stands → b.unharmed → AreToldInTurn None (g.L.Listed.passages l.fn.lower l.code) told;
      back : ArePutBack l.code k.board told m.board;
    }
