-- What is left has the faults of all, and comes to the same view.
use Rattle.std.proofs.Common.{◌≡◌, ◌≤◌, true, drop}
use Rattle.std.specs.List.{fold}
use Rattle.std.specs.Prelude.{None}
use Rattle.gaz_register.specs.Registers.{blocks_of}
use Rattle.gaz_keeper.specs.Keeper.{IsSound, LeavesAtMost, Open, after_abandon, with_working}
use Rattle.gaz_end_rules.specs.Bases.{are_reached, basis_views}
use Rattle.gaz_rules.specs.Judging.{record_faults}
use Rattle.gaz_rules.specs.Rules.{effect}
use Rattle.gaz_rules.proofs.judging.record_phase.Given as goal

abbrev pub invariant-loop-change : goal.invariant-loop-change
invariant-loop-change g l =
    let now = g.K.Shelf.seen l.keeper in
    let was = g.K.Shelf.seen l.fn.keeper in
    let own = blocks_of l.register l.code in
    let others = basis_views was.content.board l.bases in
    let left = drop l.change-index l.changes in
    record {
      harm : now.unharmed → was.unharmed;
      stands : was.stands → now.unharmed → now.stands;
      open_for : now.progress ≡ Open l.code;
      counted : was.failures ≤ now.failures;
      trust : now.trusted → was.trusted;
      stay : was.stands → now.unharmed → after_abandon now.content ≡ after_abandon was.content;
      board : was.stands → now.unharmed → now.content.board ≡ was.content.board;
      faults : was.stands → now.unharmed → are_reached was.content.board l.bases ≡ true → record_faults l.code own others now.content.working left ≡ record_faults l.code own others was.content.working l.changes;
      leaves : IsSound was → LeavesAtMost None was now;
      whole : IsSound was → was.whole → now.whole;
      view : was.stands → now.unharmed → with_working now.content (fold effect now.content.working left) ≡ with_working was.content (fold effect was.content.working l.changes);
    }
