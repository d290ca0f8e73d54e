-- What is known of properties.
use Rattle.std.specs.Prelude.{◌≡◌, ◌==◌, ℕ, Bool, false, Option, Some}
use Rattle.std.specs.Map.{lookup}
use Rattle.std.specs.Option.{IfSome, option_map_or}
use Rattle.gaz_records.specs.declared.key.Key.{Key}
use Rattle.gaz_records.specs.declared.key.Key.TheVariants as key
use Rattle.gaz_views.specs.View.{View}
use Rattle.gaz_views.specs.Words.{property_of}
use Rattle.gaz_views.specs.declared.property.Property.{Property}
use Rattle.gaz_standing.specs.Indexes.{same_mark}
use Rattle.gaz_standing.specs.declared.index.Mark.{Mark}
use Rattle.gaz_standing.specs.declared.index.Mark.TheVariants.{AddressOf}
use Rattle.gaz_ledger.specs.declared.properties.Properties.{Properties}

-- the property of this number, where it is known
abbrev pub known_in : Properties → ℕ → Option Property
known_in ps uprn = lookup (λ n. uprn == n) ps.by_uprn.entries

-- each that is known is so in the view
abbrev pub AreSo : Properties → View → Type 0
AreSo ps v = (uprn : ℕ) → IfSome (known_in ps uprn) (λ p. property_of v uprn ≡ Some p)

-- the mark is that of an address of this property
abbrev pub is_address_of : ℕ → Option Mark → Bool
is_address_of uprn mark = option_map_or (λ m. same_mark m (AddressOf uprn)) mark false

-- the key is that of this BLPU
abbrev pub is_blpu : ℕ → Key → Bool
is_blpu uprn (key.Blpu n) = n == uprn
is_blpu uprn _ = false
