-- Who is found from the custodian on that is asked now, is who is found from the first on.
use Rattle.std.proofs.Common.{◌≡◌, ◌≤◌, ◌-◌, ◌==◌}
use Rattle.gaz_chains.specs.Finding.{found}
use Rattle.gaz_keeper.specs.Board.{last_view}
use Rattle.gaz_keeper.specs.Keeper.{IsNotOpen, Keeps}
use Rattle.gaz_views.specs.View.{custody_at}
use Rattle.gaz_steps.specs.Chains.{holder_from}
use Rattle.gaz_steps.proofs.holding.holder_from.Given as goal

abbrev pub invariant-loop-turn : goal.invariant-loop-turn
invariant-loop-turn g l =
    let now = g.K.Shelf.seen l.keeper in
    let was = g.K.Shelf.seen l.fn.keeper in
    let board = was.content.board in
    record {
      keeps : Keeps was now;
      counted : was.failures ≤ now.failures;
      trust : now.trusted → was.trusted;
      idle : IsNotOpen now.progress;
      left : was.stands → now.unharmed
          → found (λ c. custody_at (last_view board c) l.uprn) (λ c. c == l.owner) (10_000 - l._turn) l.code
          ≡ holder_from board l.uprn l.owner;
    }
