-- What was told and what is left to tell are all.
use Rattle.std.proofs.Common.{◌≡◌, ◌≤◌, ◌++◌}
use Rattle.std.specs.List.{filter_map}
use Rattle.gaz_records.specs.declared.item.Kind.TheVariants as kind
use Rattle.gaz_keeper.specs.Board.{last_view, reached}
use Rattle.gaz_keeper.specs.Keeper.{IsNotOpen, Keeps}
use Rattle.gaz_views.specs.Reading.{left_after}
use Rattle.gaz_extract.specs.Closing.{closed_by, closed_of}
use Rattle.gaz_extract.specs.Paging.{pages_left}
use Rattle.gaz_extract.specs.Remembering.{AreRight}
use Rattle.gaz_extract.proofs.closed.add_custodian.Given as goal

abbrev pub invariant-pages : goal.invariant-pages
invariant-pages g l =
    let now = g.K.Shelf.seen l.keeper in
    let was = g.K.Shelf.seen l.fn.keeper in
    let B = was.content.board in
    record {
      keeps : Keeps was now;
      not_open : IsNotOpen now.progress;
      counted : was.failures ≤ now.failures;
      trust : now.trusted → was.trusted;
      volume : was.stands → now.unharmed → l.volume ≡ reached B l.code;
      right : was.stands → now.unharmed → AreRight B l.register l.code l.walk.asked.entries;
      left : was.stands → now.unharmed → l.walk.closed.items ++ filter_map (closed_by B l.register l.code) (left_after (last_view B l.code) kind.Lpi l.next) ≡ l.fn.walk.closed.items ++ closed_of B l.register l.code;
    }

abbrev pub decreases-pages : goal.decreases-pages
decreases-pages g l = pages_left l.next
