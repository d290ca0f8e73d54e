-- The routes as the router holds them.
use Rattle.std.specs.Prelude.{◌≡◌, ℕ, List, [], ◌∷◌, ◌++◌, codes}
use Rattle.matchit.specs.Rows.{RowsOf, param_token}
use Rattle.matchit.specs.Router.{RouteOf}
use Rattle.matchit.specs.Params.{AllText, walk}
use Rattle.matchit.specs.declared.params.Params.{Params}
use Rattle.gaz_exchange.specs.declared.route.Place.{Place}
use Rattle.gaz_exchange.specs.declared.route.Place.TheVariants.{Closed, Custodian, Extract, Uprn}
use Rattle.gaz_exchange.specs.declared.route.Place.TheVariants.{Volume}

-- /custodians/{c}/volumes/{v}
abbrev pub volume_route : RouteOf Place
volume_route = record {
  pattern = codes "/custodians/" ++ param_token ∷ codes "/volumes/" ++ param_token ∷ [];
  text = codes "/custodians/{c}/volumes/{v}";
  names = (13, 14) ∷ (25, 26) ∷ [];
  value = Volume;
}

-- /custodians/{c}
abbrev pub custodian_route : RouteOf Place
custodian_route = record {
  pattern = codes "/custodians/" ++ param_token ∷ [];
  text = codes "/custodians/{c}";
  names = (13, 14) ∷ [];
  value = Custodian;
}

-- /extract/{c}/{v}
abbrev pub extract_route : RouteOf Place
extract_route = record {
  pattern = codes "/extract/" ++ param_token ∷ codes "/" ++ param_token ∷ [];
  text = codes "/extract/{c}/{v}";
  names = (10, 11) ∷ (14, 15) ∷ [];
  value = Extract;
}

-- /uprn/{n}
abbrev pub uprn_route : RouteOf Place
uprn_route = record {
  pattern = codes "/uprn/" ++ param_token ∷ [];
  text = codes "/uprn/{n}";
  names = (7, 8) ∷ [];
  value = Uprn;
}

-- /closed
abbrev pub closed_route : RouteOf Place
closed_route = record {
  pattern = codes "/closed";
  text = codes "/closed";
  names = [];
  value = Closed;
}

abbrev pub routes : RowsOf (RouteOf Place)
routes =
    (closed_route.pattern, closed_route)
    ∷ (volume_route.pattern, volume_route)
    ∷ (custodian_route.pattern, custodian_route)
    ∷ (extract_route.pattern, extract_route)
    ∷ (uprn_route.pattern, uprn_route)
    ∷ []

-- each parameter with the part of the target that it took
abbrev pub parts_of : Params → List (List ℕ × List ℕ)
parts_of p = walk p.pattern.now p.text.now p.path.now p.names.now 0 0

-- the parameters took these segments
pub record Took (p : Params) (taken : List (List ℕ × List ℕ)) : Type 0 where
  pub parts : parts_of p ≡ taken
  pub texts : AllText (parts_of p)
