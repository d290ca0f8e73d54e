-- Where streets are found, and what an approved LPI breaks by its street.
use Rattle.std.specs.Prelude.{ℕ, ◌≤◌, ⊤, not, List, Option, is_none, is_some}
use Rattle.std.specs.Option.{option_and_then}
use Rattle.std.specs.FinMap as fin
use Rattle.gaz_ids.specs.declared.lang.Lang.{Lang}
use Rattle.gaz_records.specs.declared.item.Item.{Item}
use Rattle.gaz_records.specs.declared.key.Key.TheVariants as key
use Rattle.gaz_views.specs.View.{View, holds}
use Rattle.gaz_keeper.specs.Board.{reached, view_after}
use Rattle.gaz_keeper.specs.Keeper.{Content}
use Rattle.gaz_end_rules.specs.EndRules.{as_street, found_in, if_some, is_closed}
use Rattle.gaz_end_rules.specs.declared.streets.Place.{Place}
use Rattle.gaz_end_rules.specs.declared.streets.Place.TheVariants as place
use Rattle.gaz_end_rules.specs.declared.streets.StreetFaults.{StreetFaults}
use Rattle.gaz_end_rules.specs.declared.streets.StreetState.{StreetState}

-- the view at a place
abbrev pub view_in : Content → Place → View
view_in k place.Own = k.working
view_in k (place.At d) = view_after k.board d.custodian d.volume

-- the volume at a place is judged
abbrev pub IsReached : Content → Place → Type 0
IsReached k place.Own = ⊤
IsReached k (place.At d) = d.volume ≤ reached k.board d.custodian

-- whether something stands there, and whether that is a closed street
abbrev pub state_of : Option Item → StreetState
state_of stored = record {
  is_there = is_some stored;
  is_closed = if_some (option_and_then as_street stored) (λ s. is_some s.end);
}

abbrev pub street_state : View → ℕ → StreetState
street_state v usrn = state_of (fin.get v.items (key.Street usrn))

-- what an approved LPI breaks that names this street in this language
abbrev pub street_faults : View → List (ℕ × View) → ℕ → Lang → StreetFaults
street_faults v others usrn lang = record {
  is_nowhere = is_none (found_in v others usrn);
  is_closed = if_some (found_in v others usrn) (λ w. is_closed w usrn);
  is_unnamed = if_some (found_in v others usrn) (λ w. not (holds w (key.Descriptor usrn lang)));
}
