-- The columns in which tables keep an item.
use Rattle.std.specs.Prelude.{◌≤◌, ℕ, List, Option, Some, None}
use Rattle.gaz_ids.specs.Codes.{lang_number}
use Rattle.gaz_ids.specs.Limits.{last_uprn, last_usrn}
use Rattle.gaz_ids.specs.declared.status.Status.{Status}
use Rattle.gaz_ids.specs.declared.status.Status.TheVariants.{Approved, Alternative}
use Rattle.gaz_ids.specs.declared.status.Status.TheVariants.{Provisional, Historical}
use Rattle.gaz_records.specs.Items.{item_text, kind_of}
use Rattle.gaz_records.specs.Keys.{key_of}
use Rattle.gaz_records.specs.Kinds.{number_of}
use Rattle.gaz_records.specs.declared.item.Item.{Item}
use Rattle.gaz_records.specs.declared.item.Item.TheVariants as item
use Rattle.gaz_cells.specs.Ids.{id_of}

-- the numbers by which items are looked for
pub record LinksValue : Type 0 where
  pub blpu : ℕ
  pub street : ℕ
  pub lang : ℕ
  pub live : ℕ

-- none of them is greater than a UPRN or a USRN can be
pub record AreInRange (links : LinksValue) : Type 0 where
  pub blpu : links.blpu ≤ last_uprn
  pub street : links.street ≤ last_usrn

-- the cells of an item
pub record CellsValue : Type 0 where
  pub kind : ℕ
  pub id : List ℕ
  pub links : LinksValue
  pub body : List ℕ

-- the number of the property of which one is a part, or 0
abbrev pub parent_number : Option ℕ → ℕ
parent_number None = 0
parent_number (Some n) = n

-- the property that a cross reference or an LPI is of, or of which a BLPU is a part; else 0
abbrev pub blpu_of : Item → ℕ
blpu_of (item.Street x) = 0
blpu_of (item.Descriptor x) = 0
blpu_of (item.Blpu x) = parent_number x.parent
blpu_of (item.Xref x) = x.uprn
blpu_of (item.Lpi x) = x.uprn
blpu_of (item.Release x) = 0
blpu_of (item.Adopt x) = 0

-- the street itself, or the one that a descriptor or an LPI is of; else 0
abbrev pub street_of : Item → ℕ
street_of (item.Street x) = x.usrn
street_of (item.Descriptor x) = x.usrn
street_of (item.Blpu x) = 0
street_of (item.Xref x) = 0
street_of (item.Lpi x) = x.usrn
street_of (item.Release x) = 0
street_of (item.Adopt x) = 0

-- the language of a descriptor or an LPI, 1 for ENG and 2 for CYM; else 0
abbrev pub lang_in : Item → ℕ
lang_in (item.Street x) = 0
lang_in (item.Descriptor x) = lang_number x.lang
lang_in (item.Blpu x) = 0
lang_in (item.Xref x) = 0
lang_in (item.Lpi x) = lang_number x.lang
lang_in (item.Release x) = 0
lang_in (item.Adopt x) = 0

abbrev pub live_number : Status → ℕ
live_number Approved = 1
live_number Alternative = 0
live_number Provisional = 0
live_number Historical = 0

-- 1 for an approved LPI, else 0
abbrev pub live_of : Item → ℕ
live_of (item.Street x) = 0
live_of (item.Descriptor x) = 0
live_of (item.Blpu x) = 0
live_of (item.Xref x) = 0
live_of (item.Lpi x) = live_number x.status
live_of (item.Release x) = 0
live_of (item.Adopt x) = 0

abbrev pub links_of : Item → LinksValue
links_of x = record { blpu = blpu_of x; street = street_of x; lang = lang_in x; live = live_of x }

-- the record identifier, the name of the key, the numbers, and the row as `csv` writes it
abbrev pub cells_of : Item → CellsValue
cells_of x = record {
  kind = number_of (kind_of x);
  id = id_of (key_of x);
  links = links_of x;
  body = item_text x;
}
