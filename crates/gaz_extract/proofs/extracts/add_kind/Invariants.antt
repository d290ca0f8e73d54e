-- The draft with what is left of the kind is the one with all of it.
use Rattle.std.proofs.Common.{◌≡◌, ◌≤◌, None}
use Rattle.gaz_keeper.specs.Board.{reached, view_after}
use Rattle.gaz_keeper.specs.Keeper.{IsNotOpen, Keeps}
use Rattle.gaz_views.specs.Reading.{left_after}
use Rattle.gaz_views.specs.Words.{rest_of}
use Rattle.gaz_extract.specs.Drafts.{with_items}
use Rattle.gaz_extract.specs.Paging.{pages_left}
use Rattle.gaz_extract.proofs.extracts.add_kind.Given as goal

abbrev pub invariant-pages : goal.invariant-pages
invariant-pages g l =
    let now = g.K.Shelf.seen l.keeper in
    let was = g.K.Shelf.seen l.fn.keeper in
    let v = view_after was.content.board l.code l.volume in
    record {
      keeps : Keeps was now;
      not_open : IsNotOpen now.progress;
      counted : was.failures ≤ now.failures;
      trust : now.trusted → was.trusted;
      left : was.stands → now.unharmed → l.volume ≤ reached was.content.board l.code → with_items l.written.draft (left_after v l.kind l.written.next) ≡ with_items l.fn.draft (rest_of v l.kind None);
    }

abbrev pub decreases-pages : goal.decreases-pages
decreases-pages g l = pages_left l.written.next
