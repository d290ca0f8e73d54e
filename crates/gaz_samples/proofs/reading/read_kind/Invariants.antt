-- What was read and what is left are what there was.
use Rattle.std.proofs.Common.{◌≡◌, ◌≢◌, ◌≤◌, ◌++◌, ◌^◌, ◌+◌, ◌-◌, cond, None, is_some, vec_len}
use Rattle.gaz_keeper.specs.Board.{reached, view_after}
use Rattle.gaz_keeper.specs.Keeper.{Broken, Keeps}
use Rattle.gaz_views.specs.Reading.{left_after}
use Rattle.gaz_views.specs.Words.{rest_of}
use Rattle.gaz_samples.proofs.reading.read_kind.Given as goal

abbrev pub invariant-loop-next : goal.invariant-loop-next
invariant-loop-next g l =
    let was = g.S.Shelf.seen l.fn.keeper in
    let now = g.S.Shelf.seen l.keeper in
    let view = view_after was.content.board l.code l.volume in
    record {
      keeps : Keeps was now;
      cleared : now.progress ≢ Broken;
      counted : was.failures ≤ now.failures;
      trust : now.trusted → was.trusted;
      left : was.stands → now.unharmed → l.volume ≤ reached was.content.board l.code → l.items.items ++ left_after view l.kind l.next ≡ rest_of view l.kind None;
    }

abbrev pub decreases-loop-next : goal.decreases-loop-next
decreases-loop-next g l = (2 ^ 64 - vec_len l.items) + cond (is_some l.next) 1 0
