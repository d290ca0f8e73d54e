-- What a change file says: its contents, or its first fault.
use Rattle.std.specs.Prelude.{ℕ, ◌+◌, List, [], ◌∷◌, length, Option, option_map, if◌then◌else◌}
use Rattle.std.specs.List.{filter_map, range_with_len}
use Rattle.std.specs.Str.{is_utf8}
use Rattle.gaz_rows.specs.Rows.{Fields, rows_of}
use Rattle.gaz_changefile.specs.Contents.{Contents, contents_of}
use Rattle.gaz_changefile.specs.Rules.{first_broken, rules_at}

-- a good file's contents, or the number of a record, from 1, and of the rule that it breaks
pub data Reading : Type 0 where
  Good : Contents → Reading
  Bad : ℕ → ℕ → Reading

-- a record, from 1, and the rule that it breaks
pub record Fault : Type 0 where
  pub place : ℕ
  pub rule : ℕ

-- the first fault of the record at an index, from 0
abbrev pub fault_at : ℕ → ℕ → List Fields → ℕ → Option Fault
fault_at c v rows i =
    option_map (λ rule. record { place = i + 1; rule = rule })
    (first_broken (rules_at c v rows i))

-- the first fault of each record that has one, in file order, and of the end of the file
abbrev pub faults : ℕ → ℕ → List Fields → List Fault
faults c v rows = filter_map (fault_at c v rows) (range_with_len 0 (length rows + 1))

-- the first of the faults, or the contents where there is none
abbrev pub by_faults : Contents → List Fault → Reading
by_faults contents [] = Good contents
by_faults contents (f ∷ fs) = Bad f.place f.rule

-- what the bytes say as the file of a custodian and volume; bytes that aren't UTF-8 break rule 1 at
-- the first record
unfoldable pub reading : List ℕ → ℕ → ℕ → Reading
reading bytes c v =
    if is_utf8 bytes
    then by_faults (contents_of (rows_of bytes)) (faults c v (rows_of bytes)) else Bad 1 1
