-- What the fields of one record say.
use Rattle.std.specs.Prelude.{ℕ, ◌==◌, ◌||◌, List, [], ◌∷◌, Option, Some, None, if◌then◌else◌}
use Rattle.std.specs.Prelude.{Bool, true, false, codes}
use Rattle.std.specs.Option.{unwrap_or}
use Rattle.std.specs.Result.{result_ok}
use Rattle.std.specs.Str.{bytes_eq}
use Rattle.gaz_ids.specs.Limits.{most_changes}
use Rattle.gaz_ids.specs.Numbers.{read_id}
use Rattle.gaz_rows.specs.Rows.{Fields}
use Rattle.gaz_fields.specs.Fields as Records
use Rattle.gaz_records.specs.Kinds.{identified, is_entry_kind}
use Rattle.gaz_records.specs.declared.item.Kind.{Kind}
use Rattle.gaz_changefile.specs.declared.action.Action.{Action}
use Rattle.gaz_changefile.specs.declared.action.Action.TheVariants.{Insert, Update, Delete}
use Rattle.gaz_changefile.specs.declared.line.Line.{Line}
use Rattle.gaz_changefile.specs.declared.line.Line.TheVariants as line

-- the field at a place, from 0; a missing one is empty
abbrev pub field : Fields → ℕ → List ℕ
field row i = Records.field row i

-- the profiles that a reader knows: of profile 1 are files of entries, of profile 2 those in which
-- a property may also pass from one custodian to another
abbrev pub is_known_profile : ℕ → Bool
is_known_profile profile = (profile == 1) || (profile == 2)

-- the numbers of a file: digits up to a width, in a range
abbrev pub read_profile : List ℕ → Option ℕ
read_profile text = result_ok (read_id 4 1 9999 text)

abbrev pub read_order : List ℕ → Option ℕ
read_order text = result_ok (read_id 4 1 most_changes text)

abbrev pub read_count : List ℕ → Option ℕ
read_count text = result_ok (read_id 4 0 most_changes text)

-- a profile was read, and is known
abbrev pub is_known : Option ℕ → Bool
is_known None = false
is_known (Some profile) = is_known_profile profile

-- the profile that the header names, which is the first record; 1 where it names none
abbrev pub profile_named : List Fields → ℕ
profile_named [] = 1
profile_named (row ∷ rows) = unwrap_or (read_profile (field row 1)) 1

-- a number was read, and is n
abbrev pub is_value : ℕ → Option ℕ → Bool
is_value n None = false
is_value n (Some m) = m == n

-- the change type: I, U or D
abbrev pub action_of : List ℕ → Option Action
action_of text =
    if bytes_eq text (codes "I") then Some Insert
    else if bytes_eq text (codes "U") then Some Update
    else if bytes_eq text (codes "D") then Some Delete
    else None

-- a profile has change records of this kind: of entries each has
abbrev pub has_kind : ℕ → Kind → Bool
has_kind profile k = is_entry_kind k || (profile == 2)

-- a record that begins with this text, which no kind of item has or one
abbrev pub line_from : ℕ → List ℕ → Option Kind → Line
line_from profile text (Some k) = if has_kind profile k then line.Change k else line.Other
line_from profile text None =
    if bytes_eq text (codes "90") then line.Basis else
    if bytes_eq text (codes "99") then line.Trailer else line.Other

-- what a record behind the header of a profile is, by its first field
abbrev pub line_of : ℕ → Fields → Line
line_of profile row = line_from profile (field row 0) (identified (field row 0))

-- which of the records a line is
abbrev pub is_basis_line : Line → Bool
is_basis_line (line.Change k) = false
is_basis_line line.Basis = true
is_basis_line line.Trailer = false
is_basis_line line.Other = false

abbrev pub is_change_line : Line → Bool
is_change_line (line.Change k) = true
is_change_line line.Basis = false
is_change_line line.Trailer = false
is_change_line line.Other = false

abbrev pub is_trailer_line : Line → Bool
is_trailer_line (line.Change k) = false
is_trailer_line line.Basis = false
is_trailer_line line.Trailer = true
is_trailer_line line.Other = false

-- the record is a basis line
abbrev pub is_basis : ℕ → Fields → Bool
is_basis profile row = is_basis_line (line_of profile row)

-- the record is a change record
abbrev pub is_change : ℕ → Fields → Bool
is_change profile row = is_change_line (line_of profile row)

-- the record is a trailer
abbrev pub is_trailer : ℕ → Fields → Bool
is_trailer profile row = is_trailer_line (line_of profile row)
