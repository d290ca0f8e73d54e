-- What is left comes to the same view. On a broken judgement nothing was put.
use Rattle.std.proofs.Common.{◌≡◌, ◌≤◌, true}
use Rattle.std.specs.List.{list_all}
use Rattle.std.specs.Prelude.{None, fold}
use Rattle.std.specs.Vec.Iter.{into_iter_items}
use Rattle.gaz_records.specs.Items.{is_entry}
use Rattle.gaz_views.specs.View.{with_item}
use Rattle.gaz_keeper.specs.Keeper.{Broken, IsSound, LeavesAtMost, after_abandon, with_working}
use Rattle.gaz_samples.proofs.writing.put_all.Given as goal

abbrev pub invariant-loop-item : goal.invariant-loop-item
invariant-loop-item g l =
    let now = g.S.Shelf.seen l.keeper in
    let was = g.S.Shelf.seen l.fn.keeper in
    record {
      harm : now.unharmed → was.unharmed;
      stands : was.stands → now.unharmed → now.stands;
      going : now.progress ≡ was.progress;
      counted : was.failures ≤ now.failures;
      trust : now.trusted → was.trusted;
      left : was.stands → now.unharmed → with_working now.content (fold with_item now.content.working (into_iter_items l.item-iterator)) ≡ with_working was.content (fold with_item was.content.working l.fn.items.items);
      undone : was.stands → now.unharmed → after_abandon now.content ≡ after_abandon was.content;
      leaves : IsSound was → LeavesAtMost None was now;
      whole : IsSound was → was.whole → now.whole;
      full : was.progress ≡ Broken → now.is_full ≡ was.is_full;
      entries : list_all is_entry (into_iter_items l.item-iterator) ≡ true;
      none_put : was.progress ≡ Broken → into_iter_items l.item-iterator ≡ l.fn.items.items;
    }
