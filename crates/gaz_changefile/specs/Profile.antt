-- The profile that a file names.
use Rattle.std.specs.Prelude.{ℕ, ◌&&◌, nat_le, List, [], ◌∷◌, length, Option, None, if◌then◌else◌}
use Rattle.std.specs.Prelude.{codes}
use Rattle.std.specs.Str.{bytes_eq}
use Rattle.gaz_rows.specs.Rows.{Fields, rows_of}
use Rattle.gaz_changefile.specs.Lines.{field, read_profile}

-- the number in the second field of a record that begins with 10, where it reads as a profile
abbrev pub profile_in : Fields → Option ℕ
profile_in row =
    if bytes_eq (field row 0) (codes "10") && nat_le 2 (length row)
    then read_profile (field row 1) else None

abbrev pub profile_first : List Fields → Option ℕ
profile_first [] = None
profile_first (row ∷ rows) = profile_in row

-- the profile that the first record names, whatever follows it, and whether or not the bytes are a
-- text
unfoldable pub profile_of : List ℕ → Option ℕ
profile_of bytes = profile_first (rows_of bytes)
