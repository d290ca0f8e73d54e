-- Street descriptors: what their fields say, and how they are written.
use Rattle.std.specs.Prelude.{ℕ, ◌&&◌, List, [], ◌∷◌, Option, None, Result, Bool, decimal}
use Rattle.std.specs.Option.{unwrap_or}
use Rattle.gaz_ids.specs.Codes.{lang_text}
use Rattle.gaz_ids.specs.declared.lang.Lang.{Lang}
use Rattle.gaz_ids.specs.declared.lang.Lang.TheVariants.{Eng}
use Rattle.gaz_addressable.specs.Texts.{is_text}
use Rattle.gaz_addressable.specs.Objects.{is_text_or_none}
use Rattle.gaz_fields.specs.Forms.{Language, Opt, TextTo, in_form, says}
use Rattle.gaz_fields.specs.declared.fields.FieldFault.{FieldFault}
use Rattle.gaz_records.specs.Table.{descriptor_table, usrn}
use Rattle.gaz_records.specs.Streets.{is_usrn}

-- what a street is called in a language, and where it lies
pub record DescriptorValue : Type 0 where
  pub usrn : ℕ
  pub lang : Lang
  pub description : List ℕ
  pub locality : Option (List ℕ)
  pub town : Option (List ℕ)
  pub area : List ℕ

abbrev pub descriptor_said : List (List ℕ) → DescriptorValue
descriptor_said f = record {
  usrn = unwrap_or (says usrn f 0) 0;
  lang = unwrap_or (says Language f 1) Eng;
  description = unwrap_or (says (TextTo 100) f 2) [];
  locality = unwrap_or (says (Opt (TextTo 35)) f 3) None;
  town = unwrap_or (says (Opt (TextTo 30)) f 4) None;
  area = unwrap_or (says (TextTo 30) f 5) [];
}

-- the descriptor that fields say, or what is wrong with them
unfoldable pub read_descriptor : List (List ℕ) → Result DescriptorValue FieldFault
read_descriptor f = in_form descriptor_table f (descriptor_said f)

-- the texts of its fields
abbrev pub descriptor_texts : DescriptorValue → List (List ℕ)
descriptor_texts x =
    decimal x.usrn ∷ lang_text x.lang ∷ x.description
    ∷ unwrap_or x.locality [] ∷ unwrap_or x.town [] ∷ x.area ∷ []

-- what the table allows
abbrev pub is_descriptor : DescriptorValue → Bool
is_descriptor x =
    is_usrn x.usrn && is_text 100 x.description && is_text_or_none 35 x.locality
    && is_text_or_none 30 x.town && is_text 30 x.area
