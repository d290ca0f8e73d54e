-- What the records of a good file say.
use Rattle.std.specs.Prelude.{ℕ, ◌==◌, List, [], ◌∷◌, drop, length, Option, Some, None, Result, Ok}
use Rattle.std.specs.Prelude.{Err, if◌then◌else◌}
use Rattle.std.specs.Option.{unwrap_or}
use Rattle.std.specs.List.{enumerate_from, filter_map}
use Rattle.gaz_ids.specs.Numbers.{read_code, read_volume}
use Rattle.gaz_rows.specs.Rows.{Fields}
use Rattle.gaz_fields.specs.Days.{CivilDay, date_of, no_day}
use Rattle.gaz_fields.specs.declared.fields.FieldFault.{FieldFault}
use Rattle.gaz_records.specs.Items.{read_item}
use Rattle.gaz_records.specs.declared.item.Item.{Item}
use Rattle.gaz_records.specs.declared.item.Kind.{Kind}
use Rattle.gaz_changefile.specs.Lines.{action_of, field, line_of, profile_named}
use Rattle.gaz_changefile.specs.declared.action.Action.{Action}
use Rattle.gaz_changefile.specs.declared.change.Basis.{Basis}
use Rattle.gaz_changefile.specs.declared.change.Change.{Change}
use Rattle.gaz_changefile.specs.declared.line.Line.{Line}
use Rattle.gaz_changefile.specs.declared.line.Line.TheVariants as line

-- the date of a file, its basis lines and its changes, both in file order
pub record Contents : Type 0 where
  pub date : CivilDay
  pub bases : List Basis
  pub changes : List Change

-- the date in the header
abbrev pub date_in : List Fields → CivilDay
date_in [] = no_day
date_in (row ∷ rows) = unwrap_or (date_of (field row 4)) no_day

-- a basis, where its custodian and its volume were read
abbrev pub basis_from : Option ℕ → Option ℕ → Option Basis
basis_from None volume = None
basis_from (Some custodian) None = None
basis_from (Some custodian) (Some volume) =
    Some (record { custodian = custodian; volume = volume })

-- the basis that three fields say: behind the first a custodian and a volume
abbrev pub basis_in : Fields → Option Basis
basis_in row =
    if length row == 3
    then basis_from (read_code (field row 1)) (read_volume (field row 2)) else None

-- the basis of a record, by what the record is
abbrev pub basis_of : Fields → Line → Option Basis
basis_of row (line.Change kind) = None
basis_of row line.Basis = basis_in row
basis_of row line.Trailer = None
basis_of row line.Other = None

-- the basis of a record of a profile, if it is a basis line
abbrev pub basis_at : ℕ → Fields → Option Basis
basis_at profile row = basis_of row (line_of profile row)

-- the bases of these records
abbrev pub bases_in : ℕ → List Fields → List Basis
bases_in profile rows = filter_map (basis_at profile) rows

-- a change, where its type and its item were read
abbrev pub change_from : ℕ → Option Action → Result Item FieldFault → Option Change
change_from place None item = None
change_from place (Some a) (Err e) = None
change_from place (Some a) (Ok x) = Some (record { place = place; action = a; item = x })

-- the change that a change record says, whose item's fields stand behind the first three
abbrev pub change_in : ℕ → Kind → Fields → Option Change
change_in place kind row = change_from place (action_of (field row 1)) (read_item kind (drop 3 row))

abbrev pub change_of : ℕ → Fields → Line → Option Change
change_of place row (line.Change kind) = change_in place kind row
change_of place row line.Basis = None
change_of place row line.Trailer = None
change_of place row line.Other = None

-- the change of the record at a place, if it is a change record of the profile
abbrev pub change_at : ℕ → ℕ × Fields → Option Change
change_at profile (place, row) = change_of place row (line_of profile row)

-- the changes of these records, the first of which is record 1
abbrev pub changes_in : ℕ → List Fields → List Change
changes_in profile rows = filter_map (change_at profile) (enumerate_from 1 rows)

-- what a good file with these records contains
unfoldable pub contents_of : List Fields → Contents
contents_of rows = record {
  date = date_in rows;
  bases = bases_in (profile_named rows) rows;
  changes = changes_in (profile_named rows) rows;
}
