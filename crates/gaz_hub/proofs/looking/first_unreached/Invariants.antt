-- What is left finds what all find.
use Rattle.std.proofs.Common.{◌≡◌, ◌≤◌, drop}
use Rattle.gaz_keeper.specs.Keeper.{Keeps}
use Rattle.gaz_steps.specs.Outcomes.{first_unreached}
use Rattle.gaz_hub.proofs.looking.first_unreached.Given as goal

abbrev pub invariant-loop-basis : goal.invariant-loop-basis
invariant-loop-basis g l =
    let now = g.K.Shelf.seen l.keeper in
    let was = g.K.Shelf.seen l.fn.keeper in
    record {
      keeps : Keeps was now;
      counted : was.failures ≤ now.failures;
      trust : now.trusted → was.trusted;
      left : was.stands → now.unharmed → first_unreached was.content.board (drop l.basis-index l.bases) ≡ first_unreached was.content.board l.bases;
    }
