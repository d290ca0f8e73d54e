-- Streets: what their fields say, and how they are written.
use Rattle.std.specs.Prelude.{ℕ, ◌&&◌, nat_le, List, [], ◌∷◌, Option, None, Result, Bool, decimal}
use Rattle.std.specs.Option.{unwrap_or}
use Rattle.gaz_ids.specs.Limits.{last_usrn}
use Rattle.gaz_fields.specs.Days.{CivilDay, is_day_or_none, date_text, end_text, ends_by, is_day}
use Rattle.gaz_fields.specs.Days.{no_day}
use Rattle.gaz_fields.specs.Forms.{Date, Digits, EndDate, Opt, in_form, says}
use Rattle.gaz_fields.specs.declared.fields.FieldFault.{FieldFault}
use Rattle.gaz_records.specs.Table.{street_table, usrn}
use Rattle.gaz_records.specs.declared.street_type.StreetType.{StreetType}
use Rattle.gaz_records.specs.declared.street_type.StreetType.TheVariants.{DesignatedName}
use Rattle.gaz_records.specs.declared.street_type.StreetType.TheVariants.{Description}
use Rattle.gaz_records.specs.declared.street_type.StreetType.TheVariants.{NumberedStreet}
use Rattle.gaz_records.specs.declared.street_type.StreetType.TheVariants.{UnofficialName}

-- the number of a type, from 1
abbrev pub type_number : StreetType → ℕ
type_number DesignatedName = 1
type_number Description = 2
type_number NumberedStreet = 3
type_number UnofficialName = 4

-- a street: its number, that of its type, and the dates from which and up to which it is one
pub record StreetValue : Type 0 where
  pub usrn : ℕ
  pub street_type : ℕ
  pub start : CivilDay
  pub end : Option CivilDay

abbrev pub street_said : List (List ℕ) → StreetValue
street_said f = record {
  usrn = unwrap_or (says usrn f 0) 0;
  street_type = unwrap_or (says (Digits 1 1 4) f 1) 0;
  start = unwrap_or (says Date f 2) no_day;
  end = unwrap_or (says (Opt EndDate) f 3) None;
}

-- the street that fields say, or what is wrong with them
unfoldable pub read_street : List (List ℕ) → Result StreetValue FieldFault
read_street f = in_form street_table f (street_said f)

-- the texts of its fields
abbrev pub street_texts : StreetValue → List (List ℕ)
street_texts x = decimal x.usrn ∷ decimal x.street_type ∷ date_text x.start ∷ end_text x.end ∷ []

abbrev pub is_usrn : ℕ → Bool
is_usrn n = nat_le 1 n && nat_le n last_usrn

abbrev pub is_type_number : ℕ → Bool
is_type_number n = nat_le 1 n && nat_le n 4

-- what the table allows
abbrev pub is_street : StreetValue → Bool
is_street x =
    is_usrn x.usrn && is_type_number x.street_type && is_day x.start && is_day_or_none x.end
    && ends_by x.start x.end
