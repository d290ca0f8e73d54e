-- LPIs: what their fields say, and how they are written.
use Rattle.std.specs.Prelude.{ℕ, ◌&&◌, List, [], ◌∷◌, ◌++◌, Option, Some, None, Result, Bool, true}
use Rattle.std.specs.Prelude.{decimal}
use Rattle.std.specs.Option.{unwrap_or}
use Rattle.gaz_ids.specs.Codes.{lang_text, status_text}
use Rattle.gaz_ids.specs.declared.lang.Lang.{Lang}
use Rattle.gaz_ids.specs.declared.lang.Lang.TheVariants.{Eng}
use Rattle.gaz_ids.specs.declared.status.Status.{Status}
use Rattle.gaz_ids.specs.declared.status.Status.TheVariants.{Approved}
use Rattle.gaz_addressable.specs.Objects.{ObjectValue, is_object, texts_of}
use Rattle.gaz_fields.specs.Days.{CivilDay, is_day_or_none, date_text, end_text, ends_by, is_day}
use Rattle.gaz_fields.specs.Days.{no_day}
use Rattle.gaz_fields.specs.Forms.{AddressableObject, Date, EndDate, LabelTo, Language, LpiStatus}
use Rattle.gaz_fields.specs.Forms.{Opt, in_form, no_object, says}
use Rattle.gaz_fields.specs.Labels.{is_label}
use Rattle.gaz_fields.specs.declared.fields.FieldFault.{FieldFault}
use Rattle.gaz_records.specs.Table.{lpi_table, uprn, usrn}
use Rattle.gaz_records.specs.Streets.{is_usrn}
use Rattle.gaz_records.specs.Blpus.{is_uprn}

-- an address of a property on a street: its status, its objects and its dates
pub record LpiValue : Type 0 where
  pub key : List ℕ
  pub uprn : ℕ
  pub lang : Lang
  pub status : Status
  pub usrn : ℕ
  pub secondary : Option ObjectValue
  pub primary : ObjectValue
  pub start : CivilDay
  pub end : Option CivilDay

abbrev pub lpi_said : List (List ℕ) → LpiValue
lpi_said f = record {
  key = unwrap_or (says (LabelTo 14) f 0) [];
  uprn = unwrap_or (says uprn f 1) 0;
  lang = unwrap_or (says Language f 2) Eng;
  status = unwrap_or (says LpiStatus f 3) Approved;
  usrn = unwrap_or (says usrn f 4) 0;
  secondary = unwrap_or (says (Opt AddressableObject) f 5) None;
  primary = unwrap_or (says AddressableObject f 10) no_object;
  start = unwrap_or (says Date f 15) no_day;
  end = unwrap_or (says (Opt EndDate) f 16) None;
}

-- the LPI that fields say, or what is wrong with them
unfoldable pub read_lpi : List (List ℕ) → Result LpiValue FieldFault
read_lpi f = in_form lpi_table f (lpi_said f)

abbrev pub secondary_texts : Option ObjectValue → List (List ℕ)
secondary_texts None = [] ∷ [] ∷ [] ∷ [] ∷ [] ∷ []
secondary_texts (Some o) = texts_of o

-- the texts of its fields
abbrev pub lpi_texts : LpiValue → List (List ℕ)
lpi_texts x =
    x.key ∷ decimal x.uprn ∷ lang_text x.lang ∷ status_text x.status ∷ decimal x.usrn
    ∷ (secondary_texts x.secondary
    ++ (texts_of x.primary ++ (date_text x.start ∷ end_text x.end ∷ [])))

abbrev pub is_secondary : Option ObjectValue → Bool
is_secondary None = true
is_secondary (Some o) = is_object o

-- what the table allows
abbrev pub is_lpi : LpiValue → Bool
is_lpi x =
    is_label 14 x.key && is_uprn x.uprn && is_usrn x.usrn && is_secondary x.secondary
    && is_object x.primary && is_day x.start && is_day_or_none x.end && ends_by x.start x.end
