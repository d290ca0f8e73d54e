-- Worked examples, computed from the definitions.
use Rattle.std.specs.Prelude.{◌≡◌, ℕ, codes, Some, None}
use Rattle.gaz_ids.specs.declared.lang.Lang.TheVariants.{Cym, Eng}
use Rattle.gaz_records.specs.declared.item.Kind.TheVariants as kind
use Rattle.gaz_records.specs.declared.key.Key.TheVariants as key
use Rattle.gaz_cells.specs.Columns.{AreInRange, LinksValue}
use Rattle.gaz_cells.specs.Digits.{digits_in}
use Rattle.gaz_cells.specs.Ids.{id_of, key_named}
use Rattle.gaz_cells.specs.Reading.{kind_numbered}

-- of this property and this street, in no language and not live
abbrev pub links_of : ℕ → ℕ → LinksValue
links_of blpu street = record { blpu = blpu; street = street; lang = 0; live = 0 }

pub record WorkedIds : Type 0 where
  pub digits : digits_in 4 42 ≡ codes "0042"
  pub street : id_of (key.Street 101) ≡ codes "00000101"
  pub name : id_of (key.Descriptor 101 Cym) ≡ codes "00000101CYM"
  pub blpu : id_of (key.Blpu 42) ≡ codes "000000000042"
  pub lpi : id_of (key.Lpi (codes "K1")) ≡ codes "K1"
  pub named : key_named kind.Descriptor (codes "00000101ENG") ≡ Some (key.Descriptor 101 Eng)
  pub too_short : key_named kind.Blpu (codes "00000042") ≡ None
  pub zero : key_named kind.Street (codes "00000000") ≡ None
  pub kind : kind_numbered 23 ≡ Some kind.Xref
  pub no_kind : kind_numbered 22 ≡ None
  pub no_entry : kind_numbered 91 ≡ None
  pub greatest : AreInRange (links_of 999_999_999_999 99_999_999)
  pub no_property : ¬ AreInRange (links_of 1_000_000_000_000 99_999_999)
  pub no_street : ¬ AreInRange (links_of 999_999_999_999 100_000_000)
