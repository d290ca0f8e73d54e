-- No custodian so far says anything of the property.
use Rattle.std.proofs.Common.{◌≡◌, ◌≤◌, drop}
use Rattle.std.specs.List.{filter_map}
use Rattle.gaz_extract.specs.Lookups.{said_by}
use Rattle.gaz_keeper.specs.Keeper.{IsNotOpen, Keeps}
use Rattle.gaz_extract.proofs.found.lookup.Given as goal

abbrev pub invariant-loop-custodian : goal.invariant-loop-custodian
invariant-loop-custodian g l =
    let now = g.K.Shelf.seen l.keeper in
    let was = g.K.Shelf.seen l.fn.keeper in
    let B = was.content.board in
    record {
      keeps : Keeps was now;
      not_open : IsNotOpen now.progress;
      counted : was.failures ≤ now.failures;
      trust : now.trusted → was.trusted;
      left : was.stands → now.unharmed → filter_map (λ c. said_by B l.fn.register l.fn.uprn c.code) (drop l.custodian-index l.fn.register) ≡ filter_map (λ c. said_by B l.fn.register l.fn.uprn c.code) l.fn.register;
    }
