-- The keeper is as it was, and what is left has the first view with the street.
use Rattle.std.proofs.Common.{◌≡◌, ◌≤◌, true, drop, map, ◌∷◌}
use Rattle.std.specs.List.{find}
use Rattle.gaz_records.specs.declared.key.Key.TheVariants as key
use Rattle.gaz_views.specs.View.{holds}
use Rattle.gaz_end_rules.specs.Bases.{are_reached, basis_views}
use Rattle.gaz_keeper.specs.Keeper.{Keeps, Open}
use Rattle.gaz_end_rules.proofs.streets.find_street.Given as goal

abbrev pub invariant-loop-basis : goal.invariant-loop-basis
invariant-loop-basis g l =
    let now = g.K.Shelf.seen l.keeper in
    let was = g.K.Shelf.seen l.fn.keeper in
    let left = drop l.basis-index l.bases in
    record {
      keeps : Keeps was now;
      open_for : now.progress ≡ Open l.fn.code;
      counted : was.failures ≤ now.failures;
      trust : now.trusted → was.trusted;
      reached : are_reached was.content.board l.bases ≡ true → are_reached was.content.board left ≡ true;
      rest : was.stands → now.unharmed → are_reached was.content.board l.bases ≡ true → find (λ w. holds w (key.Street l.fn.usrn)) (was.content.working ∷ map (λ b. b.1) (basis_views was.content.board l.bases)) ≡ find (λ w. holds w (key.Street l.fn.usrn)) (map (λ b. b.1) (basis_views was.content.board left));
    }
