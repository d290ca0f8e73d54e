-- What was told and what is left to tell are all.
use Rattle.std.proofs.Common.{◌≡◌, ◌≤◌, ◌++◌, drop}
use Rattle.std.specs.List.{flat_map}
use Rattle.gaz_keeper.specs.Keeper.{IsNotOpen, Keeps}
use Rattle.gaz_extract.specs.Closing.{closed_of}
use Rattle.gaz_extract.proofs.closed.closed_streets.Given as goal

abbrev pub invariant-loop-custodian : goal.invariant-loop-custodian
invariant-loop-custodian g l =
    let now = g.K.Shelf.seen l.keeper in
    let was = g.K.Shelf.seen l.fn.keeper in
    let B = was.content.board in
    record {
      keeps : Keeps was now;
      not_open : IsNotOpen now.progress;
      counted : was.failures ≤ now.failures;
      trust : now.trusted → was.trusted;
      left : was.stands → now.unharmed → l.walk.closed.items ++ flat_map (λ c. closed_of B l.fn.register c.code) (drop l.custodian-index l.fn.register) ≡ flat_map (λ c. closed_of B l.fn.register c.code) l.fn.register;
    }
