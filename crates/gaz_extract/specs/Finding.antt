-- What stands in a view under a number or a text.
use Rattle.std.specs.Prelude.{ℕ, Option, Some, None}
use Rattle.std.specs.Option.{option_and_then}
use Rattle.std.specs.FinMap as map
use Rattle.gaz_ids.specs.declared.lang.Lang.{Lang}
use Rattle.gaz_records.specs.Descriptors.{DescriptorValue}
use Rattle.gaz_records.specs.Lpis.{LpiValue}
use Rattle.gaz_records.specs.declared.item.Item.{Item}
use Rattle.gaz_records.specs.declared.item.Item.TheVariants as item
use Rattle.gaz_records.specs.declared.key.Key.TheVariants as key
use Rattle.gaz_views.specs.View.{View}
pub use Rattle.gaz_views.specs.Numbered.{as_blpu, as_street, blpu_at, is_closed, street_at}

-- the descriptor, where an item is one
abbrev pub as_descriptor : Item → Option DescriptorValue
as_descriptor (item.Descriptor d) = Some d
as_descriptor _ = None

-- the LPI, where an item is one
abbrev pub as_lpi : Item → Option LpiValue
as_lpi (item.Lpi l) = Some l
as_lpi _ = None

-- the descriptor of this street in this language
abbrev pub descriptor_at : View → ℕ → Lang → Option DescriptorValue
descriptor_at v usrn lang =
    option_and_then as_descriptor (map.get v.items (key.Descriptor usrn lang))
