-- The keys of items, and their order.
use Rattle.std.specs.Prelude.{◌≡◌, ℕ, List, []}
use Rattle.std.specs.declared.cmp.Ordering.{Ordering}
use Rattle.std.specs.declared.cmp.Ordering.TheVariants.{Equal}
use Rattle.std.specs.Ordering.{nat_cmp, ordering_then}
use Rattle.std.specs.Cmp.{IsTotalOrder}
use Rattle.gaz_ids.specs.Codes.{lang_text}
use Rattle.gaz_fields.specs.Labels.{label_cmp}
use Rattle.gaz_records.specs.Kinds.{number_of}
use Rattle.gaz_records.specs.declared.item.Item.{Item}
use Rattle.gaz_records.specs.declared.item.Item.TheVariants as item
use Rattle.gaz_records.specs.declared.item.Kind.TheVariants as kind
use Rattle.gaz_records.specs.declared.key.Key.{Key}
use Rattle.gaz_records.specs.declared.key.Key.TheVariants as key

-- the key under which an item stands; of a release and an adoption that of their BLPU
abbrev pub key_of : Item → Key
key_of (item.Street x) = key.Street x.usrn
key_of (item.Descriptor x) = key.Descriptor x.usrn x.lang
key_of (item.Blpu x) = key.Blpu x.uprn
key_of (item.Xref x) = key.Xref x.key
key_of (item.Lpi x) = key.Lpi x.key
key_of (item.Release x) = key.Blpu x.uprn
key_of (item.Adopt x) = key.Blpu x.blpu.uprn

-- the record identifier of its kind
abbrev pub kind_number : Key → ℕ
kind_number (key.Street n) = number_of kind.Street
kind_number (key.Descriptor n l) = number_of kind.Descriptor
kind_number (key.Blpu n) = number_of kind.Blpu
kind_number (key.Xref t) = number_of kind.Xref
kind_number (key.Lpi t) = number_of kind.Lpi

-- the number in a key
abbrev pub number_in : Key → ℕ
number_in (key.Street n) = n
number_in (key.Descriptor n l) = n
number_in (key.Blpu n) = n
number_in (key.Xref t) = 0
number_in (key.Lpi t) = 0

-- the text in a key
abbrev pub text_in : Key → List ℕ
text_in (key.Street n) = []
text_in (key.Descriptor n l) = lang_text l
text_in (key.Blpu n) = []
text_in (key.Xref t) = t
text_in (key.Lpi t) = t

-- the order of keys: by kind, then by number, then by the bytes of the text, so CYM before ENG
abbrev pub key_cmp : Key → Key → Ordering
key_cmp a b =
    ordering_then (nat_cmp (kind_number a) (kind_number b))
    (ordering_then (nat_cmp (number_in a) (number_in b)) (label_cmp (text_in a) (text_in b)))

-- the order is total, and keys that tie are one
abbrev pub KeysAreOrdered : Type 0
KeysAreOrdered = IsTotalOrder key_cmp × ((a b : Key) → key_cmp a b ≡ Equal → a ≡ b)
