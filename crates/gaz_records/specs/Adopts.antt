-- Adoptions: what their fields say, and how they are written.
use Rattle.std.specs.Prelude.{ℕ, ◌&&◌, List, ◌∷◌, Result, Bool, decimal}
use Rattle.std.specs.Option.{unwrap_or}
use Rattle.gaz_fields.specs.Forms.{in_form, says}
use Rattle.gaz_fields.specs.declared.fields.FieldFault.{FieldFault}
use Rattle.gaz_records.specs.Table.{adopt_table, code, hop}
use Rattle.gaz_records.specs.Blpus.{blpu_said, is_blpu, texts_behind}
use Rattle.gaz_records.specs.Releases.{is_code, is_hop}
use Rattle.gaz_records.specs.declared.adopt.Adopt.{Adopt}

abbrev pub adopt_said : List (List ℕ) → Adopt
adopt_said f = record {
  blpu = blpu_said f 3;
  from = unwrap_or (says code f 1) 0;
  hop = unwrap_or (says hop f 2) 0;
}

-- the adoption that fields say, or what is wrong with them
unfoldable pub read_adopt : List (List ℕ) → Result Adopt FieldFault
read_adopt f = in_form adopt_table f (adopt_said f)

-- the texts of its fields
abbrev pub adopt_texts : Adopt → List (List ℕ)
adopt_texts x =
    decimal x.blpu.uprn ∷ decimal x.from ∷ decimal x.hop ∷ texts_behind x.blpu

-- what the table allows
abbrev pub is_adopt : Adopt → Bool
is_adopt x = is_blpu x.blpu && is_code x.from && is_hop x.hop
