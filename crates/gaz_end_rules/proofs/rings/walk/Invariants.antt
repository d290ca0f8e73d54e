-- The keeper is as it was, and these many were visited.
use Rattle.std.proofs.Common.{◌≡◌, ◌≤◌, ◌-◌, ◌^◌, length, Some}
use Rattle.gaz_end_rules.specs.EndRules.{ancestor}
use Rattle.gaz_keeper.specs.Keeper.{Keeps, Open}
use Rattle.gaz_end_rules.specs.Rings.{visit_of}
use Rattle.gaz_end_rules.proofs.Walks.{Walk}
use Rattle.gaz_end_rules.proofs.rings.walk.Given as goal

abbrev pub invariant-up : goal.invariant-up
invariant-up g l =
    let now = g.K.Shelf.seen l.keeper in
    let was = g.K.Shelf.seen l.fn.keeper in
    let v = was.content.working in
    let old = l.fn.walked.on_ring.items in
    let flags = l.walked.on_ring.items in
    record {
      keeps : Keeps was now;
      open_for : now.progress ≡ Open l.fn.code;
      counted : was.failures ≤ now.failures;
      trust : now.trusted → was.trusted;
      more : length old ≤ length flags;
      here : was.stands → now.unharmed → ancestor v (length flags - length old) l.fn.uprn ≡ Some l.at;
      visits : was.stands → now.unharmed → Walk v l.fn.uprn (visit_of l.fn.walked) old (visit_of l.walked) flags (length flags - length old);
    }

-- what memory is left for
abbrev pub decreases-up : goal.decreases-up
decreases-up g l = 2 ^ 64 - length l.walked.on_ring.items
