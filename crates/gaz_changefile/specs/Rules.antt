-- The rules that each record of a file has to keep, in the order in which they are looked at, each
-- with whether it is broken.
use Rattle.std.specs.Prelude.{ℕ, zero, suc, ◌+◌, ◌&&◌, not, ◌==◌, nat_le, nat_lt, List, [], ◌∷◌}
use Rattle.std.specs.Prelude.{length, take, drop, Option, Some, None, is_some}
use Rattle.std.specs.Prelude.{option_and_then, option_map, slice_get, if◌then◌else◌, Bool, true}
use Rattle.std.specs.Prelude.{false, count_by, codes, Result, Ok, Err}
use Rattle.std.specs.List.{last_or, list_any}
use Rattle.std.specs.Str.{bytes_eq}
use Rattle.gaz_ids.specs.Limits.{most_bases, most_changes}
use Rattle.gaz_ids.specs.Numbers.{read_code, read_volume}
use Rattle.gaz_rows.specs.Rows.{Fields}
use Rattle.gaz_fields.specs.Days.{date_of}
use Rattle.gaz_fields.specs.declared.fields.FieldFault.{FieldFault}
use Rattle.gaz_fields.specs.declared.fields.FieldFault.TheVariants as fieldfault
use Rattle.gaz_records.specs.Items.{read_item}
use Rattle.gaz_records.specs.declared.item.Item.{Item}
use Rattle.gaz_records.specs.declared.item.Kind.{Kind}
use Rattle.gaz_changefile.specs.Allowed.{may_name, named_in}
use Rattle.gaz_changefile.specs.Contents.{basis_at, basis_in}
use Rattle.gaz_changefile.specs.Lines.{action_of, field, is_basis, is_change, is_known, is_trailer}
use Rattle.gaz_changefile.specs.Lines.{is_value, line_of, profile_named, read_count}
use Rattle.gaz_changefile.specs.Lines.{read_order, read_profile}
use Rattle.gaz_changefile.specs.declared.action.Action.{Action}
use Rattle.gaz_changefile.specs.declared.change.Basis.{Basis}
use Rattle.gaz_changefile.specs.declared.line.Line.{Line}
use Rattle.gaz_changefile.specs.declared.line.Line.TheVariants as line

-- the first rule that is broken
abbrev pub first_broken : List (ℕ × Bool) → Option ℕ
first_broken [] = None
first_broken ((rule, broken) ∷ rules) = if broken then Some rule else first_broken rules

-- 10, a known profile, a custodian, a volume and a date
abbrev pub is_header : Fields → Bool
is_header row =
    bytes_eq (field row 0) (codes "10") && (length row == 5)
    && is_known (read_profile (field row 1)) && is_some (read_code (field row 2))
    && is_some (read_volume (field row 3)) && is_some (date_of (field row 4))

-- the header: it reads as one, and names the custodian and the volume under which the file came
unfoldable pub header_rules : ℕ → ℕ → Fields → List (ℕ × Bool)
header_rules c v row =
    (2, not (is_header row))
    ∷ (3, not (is_value c (read_code (field row 2)) && is_value v (read_volume (field row 3))))
    ∷ []

-- the custodian that a record names, if it is a basis line
abbrev pub custodian_at : ℕ → Fields → Option ℕ
custodian_at profile row = option_map (λ b. b.custodian) (basis_at profile row)

-- what stands before a record: the profile of the header, how many basis lines and change records,
-- the custodian that the record just before it names, if that is a basis line, and whether there is
-- a trailer
pub record Before : Type 0 where
  pub profile : ℕ
  pub bases : ℕ
  pub changes : ℕ
  pub last : Option ℕ
  pub ended : Bool

-- what stands in these records of a profile, before the next
abbrev pub before_of : ℕ → List Fields → Before
before_of profile rows = record {
  profile = profile;
  bases = count_by (is_basis profile) rows;
  changes = count_by (is_change profile) rows;
  last = option_and_then (custodian_at profile) (last_or None rows);
  ended = list_any (is_trailer profile) rows;
}

-- a custodian's code is greater than that of the basis line before
abbrev pub is_above : Option ℕ → ℕ → Bool
is_above None custodian = true
is_above (Some before) custodian = nat_lt before custodian

-- a basis of another custodian, at most the sixteenth, by rising code, and before all change
-- records
abbrev pub is_next_basis : ℕ → Before → Option Basis → Bool
is_next_basis own before None = false
is_next_basis own before (Some b) =
    not (b.custodian == own) && is_above before.last b.custodian
    && nat_lt before.bases most_bases && (before.changes == 0)

-- a basis line in a file of the own custodian
unfoldable pub basis_rules : ℕ → Before → Fields → List (ℕ × Bool)
basis_rules own before row = (4, not (is_next_basis own before (basis_in row))) ∷ []

-- the item has too few fields or too many
abbrev pub is_miscounted : Result Item FieldFault → Bool
is_miscounted (Ok x) = false
is_miscounted (Err fieldfault.Count) = true
is_miscounted (Err (fieldfault.Form n)) = false
is_miscounted (Err fieldfault.Memory) = false

-- a change type and an item were read, and a file of the own custodian may hold both as a change
abbrev pub is_allowed_if_read : ℕ → Option Action → Result Item FieldFault → Bool
is_allowed_if_read own None item = false
is_allowed_if_read own (Some a) (Err e) = false
is_allowed_if_read own (Some a) (Ok x) = may_name own a (named_in x)

-- a change record whose item was read: the change is allowed, and its order is the next
unfoldable pub read_rules : ℕ → ℕ → Item → Fields → List (ℕ × Bool)
read_rules own before item row =
    (6, not (is_allowed_if_read own (action_of (field row 1)) (Ok item)))
    ∷ (7, not (is_value (before + 1) (read_order (field row 2))))
    ∷ []

-- a change record in a file of the own custodian, behind so many others: at most 5,000, the fields
-- of its kind, each in its form and the change allowed, the next order
unfoldable pub change_rules : ℕ → ℕ → Kind → Fields → List (ℕ × Bool)
change_rules own before kind row =
    (9, nat_le most_changes before)
    ∷ (5, is_miscounted (read_item kind (drop 3 row)))
    ∷ (6, not (is_allowed_if_read own (action_of (field row 1)) (read_item kind (drop 3 row))))
    ∷ (7, not (is_value (before + 1) (read_order (field row 2))))
    ∷ []

-- the trailer behind so many change records: 99 and their count
unfoldable pub trailer_rules : ℕ → Fields → List (ℕ × Bool)
trailer_rules before row =
    (8, not ((length row == 2) && is_value before (read_count (field row 1)))) ∷ []

-- a record that begins otherwise is none
abbrev pub line_rules : ℕ → Before → Fields → Line → List (ℕ × Bool)
line_rules own before row (line.Change kind) = change_rules own before.changes kind row
line_rules own before row line.Basis = basis_rules own before row
line_rules own before row line.Trailer = trailer_rules before.changes row
line_rules own before row line.Other = (5, true) ∷ []

-- a record behind the header, or the end of the file; behind a trailer there is none
unfoldable pub later_rules : ℕ → Before → Option Fields → List (ℕ × Bool)
later_rules own before None = (8, not before.ended) ∷ []
later_rules own before (Some row) =
    (8, before.ended) ∷ line_rules own before row (line_of before.profile row)

-- the first record, if there is one
abbrev pub first_rules : ℕ → ℕ → Option Fields → List (ℕ × Bool)
first_rules c v None = (1, true) ∷ []
first_rules c v (Some row) = header_rules c v row

-- the rules of the record at an index, from 0, of these records; the index behind the last is the
-- end of the file
unfoldable pub rules_at : ℕ → ℕ → List Fields → ℕ → List (ℕ × Bool)
rules_at c v rows zero = first_rules c v (slice_get rows 0)
rules_at c v rows (suc i) =
    later_rules c (before_of (profile_named rows) (take (suc i) rows)) (slice_get rows (suc i))
