-- What is left comes to the same view.
use Rattle.std.proofs.Common.{◌≡◌, ◌≤◌, None}
use Rattle.std.specs.Vec.Iter.{into_iter_items}
use Rattle.gaz_keeper.specs.Keeper.{IsSound, LeavesAtMost, after_abandon, with_working}
use Rattle.gaz_mirror.specs.Gathering.{made}
use Rattle.gaz_mirror.proofs.changes.make_all.Given as goal

abbrev pub invariant-loop-change : goal.invariant-loop-change
invariant-loop-change g l =
    let now = g.K.Shelf.seen l.keeper in
    let was = g.K.Shelf.seen l.fn.keeper in
    record {
      harm : now.unharmed → was.unharmed;
      stands : was.stands → now.unharmed → now.stands;
      going : now.progress ≡ was.progress;
      counted : was.failures ≤ now.failures;
      trust : now.trusted → was.trusted;
      left : was.stands → now.unharmed → with_working now.content (made now.content.working (into_iter_items l.change-iterator)) ≡ with_working was.content (made was.content.working l.fn.changes.items);
      undone : was.stands → now.unharmed → after_abandon now.content ≡ after_abandon was.content;
      leaves : IsSound was → LeavesAtMost None was now;
      whole : IsSound was → was.whole → now.whole;
    }
