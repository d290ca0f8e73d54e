-- The address line of a property.
use Rattle.std.specs.Prelude.{ℕ, List, [], ◌∷◌, ◌++◌, codes, Bool, false, Option, Some, None}
use Rattle.std.specs.Prelude.{option_map, if◌then◌else◌}
use Rattle.std.specs.List.{filter_map, join_by}
use Rattle.std.specs.Option.{option_and_then, option_map_or}
use Rattle.std.specs.Str.{bytes_eq}
use Rattle.gaz_addressable.specs.HouseNumbers.{RangeValue, range_text}
use Rattle.gaz_addressable.specs.Objects.{ObjectValue}
use Rattle.gaz_records.specs.Blpus.{BlpuValue}
use Rattle.gaz_records.specs.Descriptors.{DescriptorValue}
use Rattle.gaz_records.specs.Lpis.{LpiValue}

-- a part of a line, which may be left out
abbrev pub Part : Type 0
Part = Option (List ℕ)

-- the parts that are there, with comma and space between each two
abbrev pub joined : List Part → List ℕ
joined parts = join_by (λ part. part) (codes ", ") (filter_map (λ part. part) parts)

-- the text of an object, where there is one
abbrev pub text_of : Option ObjectValue → Part
text_of object = option_and_then (λ o. o.text) object

-- the numbers of an object, as 12A-14, where there are any
abbrev pub numbers_of : Option ObjectValue → Part
numbers_of object = option_map range_text (option_and_then (λ o. o.range) object)

-- house numbers and the street's description, with one space between; the description alone where
-- there are no numbers
abbrev pub on_street : Option RangeValue → List ℕ → List ℕ
on_street None description = description
on_street (Some range) description = range_text range ++ codes " " ++ description

-- the town has just this text
abbrev pub is_town : Part → List ℕ → Bool
is_town town text = option_map_or (λ t. bytes_eq t text) town false

-- the administrative area, where its text differs from the town's; it stands where there is no town
abbrev pub area_of : DescriptorValue → Part
area_of descriptor = if is_town descriptor.town descriptor.area then None else Some descriptor.area

-- the parts of the line, from the flat to the postcode
abbrev pub parts_of : LpiValue → DescriptorValue → BlpuValue → List Part
parts_of lpi descriptor blpu =
    text_of lpi.secondary
    ∷ numbers_of lpi.secondary
    ∷ lpi.primary.text
    ∷ Some (on_street lpi.primary.range descriptor.description)
    ∷ descriptor.locality
    ∷ descriptor.town
    ∷ area_of descriptor
    ∷ blpu.postcode
    ∷ []

-- the address line of a property, by its address and the street's descriptor
abbrev pub line_text : LpiValue → DescriptorValue → BlpuValue → List ℕ
line_text lpi descriptor blpu = joined (parts_of lpi descriptor blpu)
