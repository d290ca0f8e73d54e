-- The records that a reader of a text has left.
use Rattle.std.specs.Prelude.{◌≡◌, ℕ, ◌+◌, List, [], ◌∷◌, length, Option, Some, None, true}
use Rattle.std.specs.Option.{option_map_or}
use denote.Ref.{Bor}
use Rattle.csv.specs.Reading.{Ready, default_config, is_flexible, reader_config, reader_state}
use Rattle.csv.specs.Reading.{reader_trim, records_from, source_of}
use Rattle.csv.specs.declared.reader.Reader.{Reader}
use Rattle.csv.specs.declared.reader.Trim.TheVariants as trim
use Rattle.csv.specs.declared.parser.State.{State}
use Rattle.gaz_rows.specs.Rows.{Fields}
use Rattle.gaz_rows.specs.declared.reader.Progress.{Progress}
use Rattle.gaz_rows.specs.declared.reader.Progress.TheVariants.{Open, Ended, Failed}

abbrev pub TextReader : Type 0
TextReader = Reader (Bor (List ℕ))

-- the bytes that are not read yet, of a reader that has not failed
abbrev pub unread : TextReader → Option (List ℕ)
unread rdr = source_of (λ s. Some s.now) rdr

-- the records of these bytes, from a state
abbrev pub left_of : State → List ℕ → List Fields
left_of s bytes = records_from default_config (length bytes + 1) s bytes

-- the records that the reader has left
abbrev pub left_at : TextReader → List Fields
left_at rdr = option_map_or (λ bytes. left_of (reader_state rdr) bytes) (unread rdr) []

-- the reader can go on, and takes records of any lengths
pub record IsOpen (rdr : TextReader) : Type 0 where
  pub trim : reader_trim rdr ≡ trim.None
  pub ready : Ready rdr
  pub config : reader_config rdr ≡ default_config
  pub flexible : is_flexible rdr ≡ true
  pub bytes : List ℕ
  pub source : unread rdr ≡ Some bytes

-- the records that are left, or none where a read failed
abbrev pub left_in : Progress → TextReader → Option (List Fields)
left_in Open rdr = Some (left_at rdr)
left_in Ended rdr = Some []
left_in Failed rdr = None

-- a record was read: the first of those that were left, and the others are left by an open reader
abbrev pub ReadsFirst : (old new : TextReader) → Fields → Type 0
ReadsFirst old new row = IsOpen new × (left_at old ≡ row ∷ left_at new)

-- a row was taken: the first of those that were left, and the others are left
abbrev pub TakesFirst : (left : List Fields) → Fields → (new : Option (List Fields)) → Type 0
TakesFirst left row new = (rest : List Fields) × (left ≡ row ∷ rest) × (new ≡ Some rest)

-- no row was left, and none is
abbrev pub FindsEnd : (left : List Fields) → (new : Option (List Fields)) → Type 0
FindsEnd left new = (left ≡ []) × (new ≡ Some [])

-- what has to be so of a reader, by how it was read so far
abbrev pub Stands : Progress → TextReader → Type 0
Stands Open rdr = IsOpen rdr
Stands Ended rdr = Unit {0}
Stands Failed rdr = Unit {0}
