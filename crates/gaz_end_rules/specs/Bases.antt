-- What the basis lines of a file rest on.
use Rattle.std.specs.Prelude.{ℕ, nat_le, Bool, List, map}
use Rattle.std.specs.List.{list_all}
use Rattle.gaz_changefile.specs.declared.change.Basis.{Basis}
use Rattle.gaz_views.specs.View.{View}
use Rattle.gaz_keeper.specs.Board.{Board, reached, view_after}

-- the custodian and the view on which each basis line rests, in the order of the file: that after
-- the named volume, not the newest
abbrev pub basis_views : Board → List Basis → List (ℕ × View)
basis_views board bases = map (λ d. (d.custodian, view_after board d.custodian d.volume)) bases

-- the named volumes are all judged
abbrev pub are_reached : Board → List Basis → Bool
are_reached board bases = list_all (λ d. nat_le d.volume (reached board d.custodian)) bases
