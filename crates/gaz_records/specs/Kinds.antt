-- The kinds of items, and their record identifiers.
use Rattle.std.specs.Prelude.{◌≡◌, ℕ, List, [], ◌∷◌, Option, Some, codes, decimal}
use Rattle.std.specs.Prelude.{Bool, true, false}
use Rattle.std.specs.List.{find}
use Rattle.std.specs.Str.{bytes_eq}
use Rattle.gaz_records.specs.declared.item.Kind.{Kind}
use Rattle.gaz_records.specs.declared.item.Kind.TheVariants as kind

-- the record identifier of a kind
abbrev pub number_of : Kind → ℕ
number_of kind.Street = 11
number_of kind.Descriptor = 15
number_of kind.Blpu = 21
number_of kind.Xref = 23
number_of kind.Lpi = 24
number_of kind.Release = 91
number_of kind.Adopt = 92

-- its digits, as a record begins
abbrev pub identifier : Kind → List ℕ
identifier kind.Street = codes "11"
identifier kind.Descriptor = codes "15"
identifier kind.Blpu = codes "21"
identifier kind.Xref = codes "23"
identifier kind.Lpi = codes "24"
identifier kind.Release = codes "91"
identifier kind.Adopt = codes "92"

abbrev pub kinds : List Kind
kinds =
    kind.Street ∷ kind.Descriptor ∷ kind.Blpu ∷ kind.Xref ∷ kind.Lpi ∷ kind.Release ∷ kind.Adopt
    ∷ []

-- the kind whose record identifier a text is, or none
abbrev pub identified : List ℕ → Option Kind
identified text = find (λ k. bytes_eq text (identifier k)) kinds

-- a kind of what stands in a view. A release and an adoption stand in none: what becomes of them is
-- who holds a number, and the BLPU that the adopter has
abbrev pub is_entry_kind : Kind → Bool
is_entry_kind kind.Street = true
is_entry_kind kind.Descriptor = true
is_entry_kind kind.Blpu = true
is_entry_kind kind.Xref = true
is_entry_kind kind.Lpi = true
is_entry_kind kind.Release = false
is_entry_kind kind.Adopt = false

-- the identifier of a kind is the digits of its number, and says the kind
abbrev pub IdentifiersReadBack : Type 0
IdentifiersReadBack =
    (k : Kind) → (identifier k ≡ decimal (number_of k)) × (identified (identifier k) ≡ Some k)
