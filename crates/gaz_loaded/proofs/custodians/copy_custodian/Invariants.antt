-- So far all volumes up to this one are there.
use Rattle.std.proofs.Common.{◌≡◌}
use Rattle.gaz_keeper.specs.Keeper.{Idle}
use Rattle.gaz_shelf.specs.Mem.{content_in, seen_in}
use Rattle.gaz_loaded.specs.Files.{Copies, OnlyReads}
use Rattle.gaz_loaded.proofs.Custodian.{HasUntil}
use Rattle.gaz_loaded.proofs.custodians.copy_custodian.Given as goal

abbrev pub invariant-loop : goal.invariant-loop
invariant-loop g l =
    let a = g.L.Shelf.seen l.fn.lower in
    let b = g.L.Shelf.seen l.lower in
    record {
      reads : OnlyReads a b;
      idle : (seen_in l.shelf).progress ≡ Idle;
      copies : Copies l.code a b (content_in l.fn.shelf) (content_in l.shelf);
      until : a.stands → b.unharmed → HasUntil l.above l.code a.content.files (content_in l.shelf).files;
    }
