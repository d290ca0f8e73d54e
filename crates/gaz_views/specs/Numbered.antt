-- What stands in a view under a number.
use Rattle.std.specs.Prelude.{ℕ, Bool, false, Option, Some, None, is_some}
use Rattle.std.specs.Option.{option_and_then, option_map_or}
use Rattle.std.specs.FinMap as map
use Rattle.gaz_records.specs.Blpus.{BlpuValue}
use Rattle.gaz_records.specs.Streets.{StreetValue}
use Rattle.gaz_records.specs.declared.item.Item.{Item}
use Rattle.gaz_records.specs.declared.item.Item.TheVariants as item
use Rattle.gaz_records.specs.declared.key.Key.TheVariants as key
use Rattle.gaz_views.specs.View.{View, with_adoption}

-- the street, where an item is one
abbrev pub as_street : Item → Option StreetValue
as_street (item.Street s) = Some s
as_street _ = None

-- the BLPU, where an item is one
abbrev pub as_blpu : Item → Option BlpuValue
as_blpu (item.Blpu b) = Some b
as_blpu _ = None

-- the street of this number
abbrev pub street_at : View → ℕ → Option StreetValue
street_at v usrn = option_and_then as_street (map.get v.items (key.Street usrn))

-- that street is there and has an end date
abbrev pub is_closed : View → ℕ → Bool
is_closed v usrn = option_map_or (λ s. is_some s.end) (street_at v usrn) false

-- the BLPU of this number
abbrev pub blpu_at : View → ℕ → Option BlpuValue
blpu_at v uprn = option_and_then as_blpu (map.get v.items (key.Blpu uprn))

-- the item, which is a BLPU, adopted from a custodian at a hop; no other item is adopted
abbrev pub with_adopted : View → Item → (from hop : ℕ) → View
with_adopted v i from hop = option_map_or (λ b. with_adoption v b from hop) (as_blpu i) v
