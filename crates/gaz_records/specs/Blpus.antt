-- BLPUs: what their fields say, and how they are written.
use Rattle.std.specs.Prelude.{ℕ, ◌+◌, ◌&&◌, nat_le, List, [], ◌∷◌, Option, Some, None}
use Rattle.std.specs.Prelude.{is_some, Result, Bool, true, decimal}
use Rattle.std.specs.Option.{unwrap_or}
use Rattle.gaz_ids.specs.Codes.{status_text}
use Rattle.gaz_ids.specs.Limits.{last_uprn}
use Rattle.gaz_ids.specs.declared.status.Status.{Status}
use Rattle.gaz_ids.specs.declared.status.Status.TheVariants.{Approved}
use Rattle.gaz_addressable.specs.Objects.{is_text_or_none}
use Rattle.gaz_fields.specs.Days.{CivilDay, is_day_or_none, date_text, end_text, ends_by, is_day}
use Rattle.gaz_fields.specs.Days.{no_day}
use Rattle.gaz_fields.specs.Forms.{BlpuStatus, Date, EndDate, Opt, TextTo, first_bad, in_form}
use Rattle.gaz_fields.specs.Forms.{of_blpu, says, unless_bad}
use Rattle.gaz_fields.specs.declared.fields.FieldFault.{FieldFault}
use Rattle.gaz_records.specs.Table.{behind_uprn, blpu_table, easting, northing, uprn}

-- a property: its number and status, where it lies, what it is part of, its postcode and its dates
pub record BlpuValue : Type 0 where
  pub uprn : ℕ
  pub status : Status
  pub easting : ℕ
  pub northing : ℕ
  pub parent : Option ℕ
  pub postcode : Option (List ℕ)
  pub start : CivilDay
  pub end : Option CivilDay

-- the BLPU of a number and of the fields that say what is behind it, from a place on
abbrev pub behind_said : ℕ → List (List ℕ) → ℕ → BlpuValue
behind_said number f i = record {
  uprn = number;
  status = unwrap_or (says BlpuStatus f i) Approved;
  easting = unwrap_or (says easting f (i + 1)) 0;
  northing = unwrap_or (says northing f (i + 2)) 0;
  parent = unwrap_or (says (Opt uprn) f (i + 3)) None;
  postcode = unwrap_or (says (Opt (TextTo 8)) f (i + 4)) None;
  start = unwrap_or (says Date f (i + 5)) no_day;
  end = unwrap_or (says (Opt EndDate) f (i + 6)) None;
}

-- the same, or what is wrong with these fields
unfoldable pub read_behind : ℕ → List (List ℕ) → ℕ → Result BlpuValue FieldFault
read_behind number f i = unless_bad (first_bad behind_uprn f i) (behind_said number f i)

-- the number in the first field, and what is behind it from a place on
abbrev pub blpu_said : List (List ℕ) → ℕ → BlpuValue
blpu_said f i = behind_said (unwrap_or (says uprn f 0) 0) f i

-- the BLPU that fields say, or what is wrong with them
unfoldable pub read_blpu : List (List ℕ) → Result BlpuValue FieldFault
read_blpu f = in_form blpu_table f (blpu_said f 1)

abbrev pub parent_text : Option ℕ → List ℕ
parent_text None = []
parent_text (Some n) = decimal n

-- the texts of its fields behind its number
abbrev pub texts_behind : BlpuValue → List (List ℕ)
texts_behind x =
    status_text x.status ∷ decimal x.easting ∷ decimal x.northing ∷ parent_text x.parent
    ∷ unwrap_or x.postcode [] ∷ date_text x.start ∷ end_text x.end ∷ []

-- the texts of its fields
abbrev pub blpu_texts : BlpuValue → List (List ℕ)
blpu_texts x = decimal x.uprn ∷ texts_behind x

abbrev pub is_uprn : ℕ → Bool
is_uprn n = nat_le 1 n && nat_le n last_uprn

abbrev pub is_parent : Option ℕ → Bool
is_parent None = true
is_parent (Some n) = is_uprn n

-- what the table allows
abbrev pub is_blpu : BlpuValue → Bool
is_blpu x =
    is_uprn x.uprn && is_some (of_blpu x.status) && nat_le x.easting 700_000
    && nat_le x.northing 1_300_000 && is_parent x.parent
    && is_text_or_none 8 x.postcode && is_day x.start && is_day_or_none x.end
    && ends_by x.start x.end
