-- What was told and what is left to tell are all.
use Rattle.std.proofs.Common.{◌≡◌, ◌≤◌, ◌++◌, drop}
use Rattle.std.specs.List.{filter_map}
use Rattle.gaz_keeper.specs.Keeper.{IsNotOpen, Keeps}
use Rattle.gaz_extract.specs.Closing.{closed_by}
use Rattle.gaz_extract.specs.Remembering.{Recalls}
use Rattle.gaz_extract.proofs.closed.add_items.Given as goal

abbrev pub invariant-loop-item : goal.invariant-loop-item
invariant-loop-item g l =
    let now = g.K.Shelf.seen l.keeper in
    let was = g.K.Shelf.seen l.fn.keeper in
    let told = closed_by was.content.board l.register l.code in
    record {
      keeps : Keeps was now;
      not_open : IsNotOpen now.progress;
      counted : was.failures ≤ now.failures;
      trust : now.trusted → was.trusted;
      left : was.stands → now.unharmed → Recalls was.content.board l.register l.code l.fn.walk.asked.entries l.walk.asked.entries
          (l.walk.closed.items ++ filter_map told (drop l.item-index l.items) ≡ l.fn.walk.closed.items ++ filter_map told l.items);
    }
