-- How a change file is written.
use Rattle.std.specs.Prelude.{◌≡◌, ℕ, not, List, [], ◌∷◌, ◌++◌, length, map, decimal, codes}
use Rattle.std.specs.Prelude.{if◌then◌else◌}
use Rattle.std.specs.List.{enumerate_from, list_any}
use Rattle.gaz_rows.specs.Rows.{Fields, line_of, lines_of}
use Rattle.gaz_fields.specs.Days.{CivilDay, date_text}
use Rattle.gaz_records.specs.Items.{is_entry, item_texts, kind_of}
use Rattle.gaz_records.specs.Kinds.{identifier}
use Rattle.gaz_changefile.specs.Contents.{Contents}
use Rattle.gaz_changefile.specs.declared.action.Action.{Action}
use Rattle.gaz_changefile.specs.declared.action.Action.TheVariants.{Insert, Update, Delete}
use Rattle.gaz_changefile.specs.declared.change.Basis.{Basis}
use Rattle.gaz_changefile.specs.declared.change.Change.{Change}

-- the change type
abbrev pub action_text : Action → List ℕ
action_text Insert = codes "I"
action_text Update = codes "U"
action_text Delete = codes "D"

-- the profile of a file with these changes: the least that has records of all of them
abbrev pub profile_for : List Change → ℕ
profile_for changes = if list_any (λ x. not (is_entry x.item)) changes then 2 else 1

-- the header of a profile; numbers are written without leading zeros
abbrev pub header_row : ℕ → ℕ → ℕ → CivilDay → Fields
header_row profile code volume date =
    codes "10" ∷ decimal profile ∷ decimal code ∷ decimal volume ∷ date_text date ∷ []

-- a basis line
abbrev pub basis_row : Basis → Fields
basis_row b = codes "90" ∷ decimal b.custodian ∷ decimal b.volume ∷ []

-- a change with its order
abbrev pub change_row : ℕ × Change → Fields
change_row (n, x) =
    identifier (kind_of x.item) ∷ action_text x.action ∷ decimal n ∷ item_texts x.item

-- the trailer behind so many changes
abbrev pub trailer_row : ℕ → Fields
trailer_row n = codes "99" ∷ decimal n ∷ []

-- changes have the orders 1, 2, 3 and so on
abbrev pub change_rows : ℕ → List Change → List Fields
change_rows first changes = map change_row (enumerate_from first changes)

-- the records of the file of a custodian and volume
abbrev pub file_rows : ℕ → ℕ → Contents → List Fields
file_rows code volume file =
    header_row (profile_for file.changes) code volume file.date
    ∷ (map basis_row file.bases
    ++ (change_rows 1 file.changes ++ (trailer_row (length file.changes) ∷ [])))

-- its canonical bytes, each record as `csv` writes it, ended by LF
abbrev pub file_text : ℕ → ℕ → Contents → List ℕ
file_text code volume file = lines_of (file_rows code volume file)

-- a record of two fields or more and its line end
abbrev pub line_text : Fields → List ℕ
line_text row = line_of row ++ (10 ∷ [])

-- behind what was there stands the record with its line end
abbrev pub AddsRow : (old new : List ℕ) → Fields → Type 0
AddsRow old new row = new ≡ old ++ line_text row
