-- What rules and readings ask of a view.
use Rattle.std.specs.Prelude.{ℕ, ◌==◌, ◌&&◌, Bool, true, false, List, [], ◌∷◌, map, filter, take}
use Rattle.std.specs.Prelude.{Option, Some, None, option_map}
use Rattle.std.specs.Option.{option_map_or}
use Rattle.std.specs.List.{list_any}
use Rattle.std.specs.Ordering.{is_lt}
use Rattle.std.specs.FinMap as map
use Rattle.gaz_ids.specs.declared.lang.Lang.{Lang}
use Rattle.gaz_ids.specs.declared.lang.Lang.TheVariants.{Cym, Eng}
use Rattle.gaz_ids.specs.declared.status.Status.{Status}
use Rattle.gaz_ids.specs.declared.status.Status.TheVariants.{Approved}
use Rattle.gaz_records.specs.Keys.{key_cmp}
use Rattle.gaz_records.specs.declared.item.Item.{Item}
use Rattle.gaz_records.specs.declared.item.Item.TheVariants as item
use Rattle.gaz_records.specs.declared.item.Kind.{Kind}
use Rattle.gaz_records.specs.declared.item.Kind.TheVariants as kind
use Rattle.gaz_records.specs.declared.key.Key.{Key}
use Rattle.gaz_records.specs.declared.key.Key.TheVariants as key
use Rattle.gaz_views.specs.View.{View}
use Rattle.gaz_views.specs.declared.property.Property.{Property}

-- what a view holds, in the order of keys
abbrev pub entries : View → List (Key × Item)
entries v = map.entries v.items

-- the first of a list, where there is one
abbrev pub first_of : {A : Type 0} → List A → Option A
first_of [] = None
first_of (x ∷ xs) = Some x

-- the status Approved, and no other
abbrev pub is_approved : Status → Bool
is_approved Approved = true
is_approved _ = false

-- they are one language
abbrev pub same_lang : Lang → Lang → Bool
same_lang Cym Cym = true
same_lang Eng Eng = true
same_lang _ _ = false

-- this language, or whichever where none is given
abbrev pub is_in : Option Lang → Lang → Bool
is_in lang l = option_map_or (same_lang l) lang true

-- ---- addresses and parts of a property

-- an approved LPI of the BLPU
abbrev pub is_approved_of : ℕ → Item → Bool
is_approved_of uprn (item.Lpi l) = is_approved l.status && l.uprn == uprn
is_approved_of uprn _ = false

-- an approved LPI on the street, in this language where one is given
abbrev pub is_approved_on : ℕ → Option Lang → Item → Bool
is_approved_on usrn lang (item.Lpi l) = is_approved l.status && l.usrn == usrn && is_in lang l.lang
is_approved_on usrn lang _ = false

-- a BLPU that is a part of this one
abbrev pub is_child_of : ℕ → Item → Bool
is_child_of uprn (item.Blpu b) = option_map_or (λ p. p == uprn) b.parent false
is_child_of uprn _ = false

-- the keys of the BLPU's approved LPIs, in the order of keys
abbrev pub approved_of : View → ℕ → List Key
approved_of v uprn = map (λ e. e.0) (filter (λ e. is_approved_of uprn e.1) (entries v))

-- the BLPU's approved LPI of the least key
abbrev pub address_of : View → ℕ → Option Item
address_of v uprn =
    option_map (λ e. e.1) (first_of (filter (λ e. is_approved_of uprn e.1) (entries v)))

-- the BLPU with its address
abbrev pub property_of : View → ℕ → Option Property
property_of v uprn =
    option_map (λ blpu. record { blpu = blpu; address = address_of v uprn })
    (map.get v.items (key.Blpu uprn))

-- an approved LPI stands on the street, in this language where one is given
abbrev pub approved_on : View → ℕ → Option Lang → Bool
approved_on v usrn lang = list_any (λ e. is_approved_on usrn lang e.1) (entries v)

-- the BLPU has parts
abbrev pub has_children : View → ℕ → Bool
has_children v uprn = list_any (λ e. is_child_of uprn e.1) (entries v)

-- the BLPU that a cross reference names, or an LPI of whatever status
abbrev pub blpu_named : Item → Option ℕ
blpu_named (item.Xref x) = Some x.uprn
blpu_named (item.Lpi l) = Some l.uprn
blpu_named _ = None

-- the item names this BLPU
abbrev pub names : ℕ → Item → Bool
names uprn i = option_map_or (λ n. n == uprn) (blpu_named i) false

-- an LPI or a cross reference names the BLPU
abbrev pub tied : View → ℕ → Bool
tied v uprn = list_any (λ e. names uprn e.1) (entries v)

-- ---- pages

-- the key is one of the kind
abbrev pub is_of : Kind → Key → Bool
is_of kind.Street (key.Street n) = true
is_of kind.Descriptor (key.Descriptor n l) = true
is_of kind.Blpu (key.Blpu n) = true
is_of kind.Xref (key.Xref t) = true
is_of kind.Lpi (key.Lpi t) = true
is_of _ _ = false

-- the key comes after this one, or after the start where none is given
abbrev pub comes_after : Option Key → Key → Bool
comes_after after k = option_map_or (λ a. is_lt (key_cmp a k)) after true

-- the items of a kind after a key, in the order of keys
abbrev pub rest_of : View → Kind → Option Key → List Item
rest_of v kind after =
    map (λ e. e.1) (filter (λ e. is_of kind e.0 && comes_after after e.0) (entries v))

-- the first so many of them
abbrev pub page : View → Kind → Option Key → ℕ → List Item
page v kind after most = take most (rest_of v kind after)
