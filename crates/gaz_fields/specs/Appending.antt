-- Calls that append to a caller's buffer.
use Rattle.std.specs.Prelude.{◌≡◌, ℕ, List, ◌++◌}
use Rattle.csv.specs.Writing.{default_writer, field_text, fields_text}
use Rattle.gaz_rows.specs.Rows.{line_of}

-- what was there stands, and something may stand behind it
pub record Grows (old new : List ℕ) : Type 0 where
  pub behind : List ℕ
  pub is : new ≡ old ++ behind

-- behind what was there stands the field as `csv` writes it
abbrev pub AddsField : (old new field : List ℕ) → Type 0
AddsField old new field = new ≡ old ++ field_text default_writer field

-- behind what was there stand these fields, each behind a comma
abbrev pub AddsFields : (old new : List ℕ) (fields : List (List ℕ)) → Type 0
AddsFields old new fields = new ≡ old ++ fields_text default_writer fields

-- behind what was there stands the row of these fields, without a line end
abbrev pub AddsLine : (old new : List ℕ) (fields : List (List ℕ)) → Type 0
AddsLine old new fields = new ≡ old ++ line_of fields
