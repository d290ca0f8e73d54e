-- So far all that is listed up to a place is at hand.
use Rattle.std.proofs.Common.{◌≡◌, ℕ}
use Rattle.gaz_keeper.specs.Board.{reached, verdict_on}
use Rattle.gaz_keeper.specs.Keeper.{Idle}
use Rattle.gaz_shelf.specs.Mem.{content_in, seen_in}
use Rattle.gaz_loaded.specs.Files.{OnlyReads}
use Rattle.gaz_loaded.specs.Lives.{AreAtHand}
use Rattle.gaz_loaded.specs.Restoring.{HasPassages}
use Rattle.gaz_loaded.proofs.restoring.bring_lives.Given as goal

abbrev pub invariant-loop : goal.invariant-loop
invariant-loop g l =
    let a = g.L.Shelf.seen l.fn.lower in
    let b = g.L.Shelf.seen l.lower in
    let k = content_in l.fn.shelf in
    let m = content_in l.shelf in
    record {
      reads : OnlyReads a b;
      idle : (seen_in l.shelf).progress ≡ Idle;
      files : m.files ≡ k.files;
      as_many : (c : ℕ) → reached m.board c ≡ reached k.board c;
      verdicts : (c v : ℕ) → verdict_on m.board c v ≡ verdict_on k.board c v;
      stays : a.stands → b.unharmed → g.L.Listed.lives l.lower ≡ g.L.Listed.lives l.fn.lower;
      hand : a.stands → b.unharmed → ((c : ℕ) → reached k.board c ≡ reached a.content.board c) → ((c : ℕ) → HasPassages (g.L.Listed.passages l.fn.lower c) k.board c)
          → AreAtHand l.place (g.L.Listed.lives l.fn.lower) (g.L.Listed.passages l.fn.lower) m.board;
    }
