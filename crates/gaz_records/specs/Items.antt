-- Items of all kinds: what fields say, and the row of an item.
use Rattle.std.specs.Prelude.{◌≡◌, List, ℕ, Option, Some, None, Result, Ok, Err, Bool, true}
use Rattle.gaz_rows.specs.Rows.{line_of, one_row}
use Rattle.gaz_fields.specs.declared.fields.FieldFault.{FieldFault}
use Rattle.gaz_fields.specs.declared.fields.FieldFault.TheVariants as fault
use Rattle.gaz_records.specs.Streets.{is_street, read_street, street_texts}
use Rattle.gaz_records.specs.Descriptors.{descriptor_texts, is_descriptor, read_descriptor}
use Rattle.gaz_records.specs.Blpus.{blpu_texts, is_blpu, read_blpu}
use Rattle.gaz_records.specs.Xrefs.{is_xref, read_xref, xref_texts}
use Rattle.gaz_records.specs.Lpis.{is_lpi, lpi_texts, read_lpi}
use Rattle.gaz_records.specs.Releases.{is_release, read_release, release_texts}
use Rattle.gaz_records.specs.Adopts.{adopt_texts, is_adopt, read_adopt}
use Rattle.gaz_records.specs.Kinds.{is_entry_kind}
use Rattle.gaz_records.specs.declared.item.Item.{Item}
use Rattle.gaz_records.specs.declared.item.Item.TheVariants as item
use Rattle.gaz_records.specs.declared.item.Kind.{Kind}
use Rattle.gaz_records.specs.declared.item.Kind.TheVariants as kind

abbrev pub map_ok : {A B E : Type 0} → (A → B) → Result A E → Result B E
map_ok f (Ok x) = Ok (f x)
map_ok f (Err e) = Err e

-- the item of a kind that these fields say, or what is wrong with them
abbrev pub read_item : Kind → List (List ℕ) → Result Item FieldFault
read_item kind.Street f = map_ok item.Street (read_street f)
read_item kind.Descriptor f = map_ok item.Descriptor (read_descriptor f)
read_item kind.Blpu f = map_ok item.Blpu (read_blpu f)
read_item kind.Xref f = map_ok item.Xref (read_xref f)
read_item kind.Lpi f = map_ok item.Lpi (read_lpi f)
read_item kind.Release f = map_ok item.Release (read_release f)
read_item kind.Adopt f = map_ok item.Adopt (read_adopt f)

abbrev pub kind_of : Item → Kind
kind_of (item.Street x) = kind.Street
kind_of (item.Descriptor x) = kind.Descriptor
kind_of (item.Blpu x) = kind.Blpu
kind_of (item.Xref x) = kind.Xref
kind_of (item.Lpi x) = kind.Lpi
kind_of (item.Release x) = kind.Release
kind_of (item.Adopt x) = kind.Adopt

-- what stands in views: a record of one of the five kinds of a gazetteer
abbrev pub is_entry : Item → Bool
is_entry x = is_entry_kind (kind_of x)

-- the texts of an item's fields
abbrev pub item_texts : Item → List (List ℕ)
item_texts (item.Street x) = street_texts x
item_texts (item.Descriptor x) = descriptor_texts x
item_texts (item.Blpu x) = blpu_texts x
item_texts (item.Xref x) = xref_texts x
item_texts (item.Lpi x) = lpi_texts x
item_texts (item.Release x) = release_texts x
item_texts (item.Adopt x) = adopt_texts x

-- the row of an item as `csv` writes it, without a line end
abbrev pub item_text : Item → List ℕ
item_text x = line_of (item_texts x)

abbrev pub item_of_row : Kind → Option (List (List ℕ)) → Result Item FieldFault
item_of_row k None = Err fault.Count
item_of_row k (Some f) = read_item k f

-- the item of a kind that a text says, which is one row
abbrev pub item_of_text : Kind → List ℕ → Result Item FieldFault
item_of_text k t = item_of_row k (one_row t)

-- what the table allows
abbrev pub is_item : Item → Bool
is_item (item.Street x) = is_street x
is_item (item.Descriptor x) = is_descriptor x
is_item (item.Blpu x) = is_blpu x
is_item (item.Xref x) = is_xref x
is_item (item.Lpi x) = is_lpi x
is_item (item.Release x) = is_release x
is_item (item.Adopt x) = is_adopt x

-- an item reads back from its fields and from its row
abbrev pub ItemsReadBack : Type 0
ItemsReadBack = (x : Item) → is_item x ≡ true
    → (read_item (kind_of x) (item_texts x) ≡ Ok x)
    × (item_of_text (kind_of x) (item_text x) ≡ Ok x)

-- what fields say as an item of a kind is of that kind, and such as the table allows
abbrev pub ReadsItems : Type 0
ReadsItems = (k : Kind) (f : List (List ℕ)) (x : Item) → read_item k f ≡ Ok x
    → (kind_of x ≡ k) × (is_item x ≡ true)
