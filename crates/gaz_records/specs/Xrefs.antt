-- Cross references: what their fields say, and how they are written.
use Rattle.std.specs.Prelude.{ℕ, ◌&&◌, List, [], ◌∷◌, Option, None, Result, Bool, decimal}
use Rattle.std.specs.Option.{unwrap_or}
use Rattle.gaz_addressable.specs.Texts.{is_text}
use Rattle.gaz_fields.specs.Days.{CivilDay, is_day_or_none, date_text, end_text, ends_by, is_day}
use Rattle.gaz_fields.specs.Days.{no_day}
use Rattle.gaz_fields.specs.Forms.{Date, EndDate, LabelTo, Opt, TextTo, in_form, says}
use Rattle.gaz_fields.specs.Labels.{is_label}
use Rattle.gaz_fields.specs.declared.fields.FieldFault.{FieldFault}
use Rattle.gaz_records.specs.Table.{uprn, xref_table}
use Rattle.gaz_records.specs.Blpus.{is_uprn}

-- by what another source knows a property
pub record XrefValue : Type 0 where
  pub key : List ℕ
  pub uprn : ℕ
  pub source : List ℕ
  pub reference : List ℕ
  pub start : CivilDay
  pub end : Option CivilDay

abbrev pub xref_said : List (List ℕ) → XrefValue
xref_said f = record {
  key = unwrap_or (says (LabelTo 14) f 0) [];
  uprn = unwrap_or (says uprn f 1) 0;
  source = unwrap_or (says (LabelTo 6) f 2) [];
  reference = unwrap_or (says (TextTo 50) f 3) [];
  start = unwrap_or (says Date f 4) no_day;
  end = unwrap_or (says (Opt EndDate) f 5) None;
}

-- the cross reference that fields say, or what is wrong with them
unfoldable pub read_xref : List (List ℕ) → Result XrefValue FieldFault
read_xref f = in_form xref_table f (xref_said f)

-- the texts of its fields
abbrev pub xref_texts : XrefValue → List (List ℕ)
xref_texts x =
    x.key ∷ decimal x.uprn ∷ x.source ∷ x.reference ∷ date_text x.start ∷ end_text x.end ∷ []

-- what the table allows
abbrev pub is_xref : XrefValue → Bool
is_xref x =
    is_label 14 x.key && is_uprn x.uprn && is_label 6 x.source && is_text 50 x.reference
    && is_day x.start && is_day_or_none x.end && ends_by x.start x.end
