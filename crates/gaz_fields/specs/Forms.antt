-- The forms that fields have, and what a field of a form says.
use Rattle.std.specs.Prelude.{ℕ, ◌+◌, ◌-◌, ◌==◌, ◌&&◌, List, [], ◌∷◌, length, Option, Some, None}
use Rattle.std.specs.Prelude.{is_some, option_map, option_and_then, Result, Ok, Err, if◌then◌else◌}
use Rattle.std.specs.Prelude.{Bool}
use Rattle.std.specs.Option.{unwrap_or}
use Rattle.std.specs.Result.{result_ok}
use Rattle.gaz_ids.specs.Numbers.{read_id}
use Rattle.gaz_ids.specs.Codes.{lang_of, status_of}
use Rattle.gaz_ids.specs.declared.lang.Lang.{Lang}
use Rattle.gaz_ids.specs.declared.status.Status.{Status}
use Rattle.gaz_ids.specs.declared.status.Status.TheVariants.{Approved, Alternative, Provisional}
use Rattle.gaz_ids.specs.declared.status.Status.TheVariants.{Historical}
use Rattle.gaz_addressable.specs.Texts.{text_of}
use Rattle.gaz_addressable.specs.Objects.{ObjectValue, object_of}
use Rattle.gaz_addressable.specs.declared.object.ObjFault.{ObjFault}
use Rattle.gaz_fields.specs.Days.{CivilDay, date_of, day_le, no_day}
use Rattle.gaz_fields.specs.Fields.{field}
use Rattle.gaz_fields.specs.Labels.{label_of}
use Rattle.gaz_fields.specs.declared.fields.FieldFault.{FieldFault}
use Rattle.gaz_fields.specs.declared.reading_codes.Dates.{Dates}
use Rattle.gaz_fields.specs.declared.fields.FieldFault.TheVariants as fault

pub data Form : Type 0 where
  -- at most so many digits, which say a number from the one to the other
  Digits : ℕ → ℕ → ℕ → Form
  -- ENG or CYM
  Language : Form
  -- the digit 1, 6 or 8
  BlpuStatus : Form
  -- the digit 1, 3, 6 or 8
  LpiStatus : Form
  -- 1 to so many of A to Z, 0 to 9
  LabelTo : ℕ → Form
  -- a text of 1 to so many characters
  TextTo : ℕ → Form
  -- a date
  Date : Form
  -- a date that isn't before that of the field before
  EndDate : Form
  -- an addressable object, in five fields
  AddressableObject : Form
  -- the form, or no byte
  Opt : Form → Form

-- how many fields it takes
abbrev pub width : Form → ℕ
width (Digits digits low high) = 1
width Language = 1
width BlpuStatus = 1
width LpiStatus = 1
width (LabelTo most) = 1
width (TextTo most) = 1
width Date = 1
width EndDate = 1
width AddressableObject = 5
width (Opt form) = width form

-- what a field of the form says
abbrev pub Said : Form → Type 0
Said (Digits digits low high) = ℕ
Said Language = Lang
Said BlpuStatus = Status
Said LpiStatus = Status
Said (LabelTo most) = List ℕ
Said (TextTo most) = List ℕ
Said Date = CivilDay
Said EndDate = CivilDay
Said AddressableObject = ObjectValue
Said (Opt form) = Option (Said form)

-- a BLPU is no alternative
abbrev pub of_blpu : Status → Option Status
of_blpu Approved = Some Approved
of_blpu Alternative = None
of_blpu Provisional = Some Provisional
of_blpu Historical = Some Historical

abbrev pub not_before : CivilDay → CivilDay → Option CivilDay
not_before start end = if day_le start end then Some end else None

-- no object, for where there is none to tell
abbrev pub no_object : ObjectValue
no_object = record { range = None; text = None }

-- an object stands in five fields
abbrev pub object_at : List (List ℕ) → ℕ → Result ObjectValue ObjFault
object_at f i =
    object_of (field f i) (field f (i + 1)) (field f (i + 2)) (field f (i + 3)) (field f (i + 4))

abbrev pub no_byte : List (List ℕ) → ℕ → Bool
no_byte f i = length (field f i) == 0

-- the fields of the form are empty
abbrev pub is_blank : Form → List (List ℕ) → ℕ → Bool
is_blank (Digits digits low high) f i = no_byte f i
is_blank Language f i = no_byte f i
is_blank BlpuStatus f i = no_byte f i
is_blank LpiStatus f i = no_byte f i
is_blank (LabelTo most) f i = no_byte f i
is_blank (TextTo most) f i = no_byte f i
is_blank Date f i = no_byte f i
is_blank EndDate f i = no_byte f i
is_blank AddressableObject f i =
    no_byte f i && no_byte f (i + 1) && no_byte f (i + 2) && no_byte f (i + 3)
    && no_byte f (i + 4)
is_blank (Opt form) f i = is_blank form f i

-- what the field at a place says, where it has the form
unfoldable pub says : (form : Form) → List (List ℕ) → ℕ → Option (Said form)
says (Digits digits low high) f i = result_ok (read_id digits low high (field f i))
says Language f i = lang_of (field f i)
says BlpuStatus f i = option_and_then of_blpu (status_of (field f i))
says LpiStatus f i = status_of (field f i)
says (LabelTo most) f i = label_of most (field f i)
says (TextTo most) f i = result_ok (text_of most (field f i))
says Date f i = date_of (field f i)
says EndDate f i =
    option_and_then (λ start. option_and_then (not_before start) (date_of (field f i)))
    (date_of (field f (i - 1)))
says AddressableObject f i = result_ok (object_at f i)
says (Opt form) f i = if is_blank form f i then Some None else option_map Some (says form f i)

-- the first field, from 1, that hasn't its form
abbrev pub first_bad : List Form → List (List ℕ) → ℕ → Option ℕ
first_bad [] f i = None
first_bad (form ∷ forms) f i =
    if is_some (says form f i) then first_bad forms f (i + width form) else Some (i + 1)

-- how many fields the forms take
abbrev pub total_width : List Form → ℕ
total_width [] = 0
total_width (form ∷ forms) = width form + total_width forms

abbrev pub unless_bad : {A : Type 0} → Option ℕ → A → Result A FieldFault
unless_bad None x = Ok x
unless_bad (Some n) x = Err (fault.Form n)

-- what a date and the end date behind it say
abbrev pub dates_said : List (List ℕ) → ℕ → Dates
dates_said f i = record {
  start = unwrap_or (says Date f i) no_day;
  end = unwrap_or (says (Opt EndDate) f (i + 1)) None;
}

-- a date and the end date behind it, or what is wrong with them
abbrev pub dates_at : List (List ℕ) → ℕ → Result Dates FieldFault
dates_at f i = unless_bad (first_bad (Date ∷ Opt EndDate ∷ []) f i) (dates_said f i)

-- so many fields, each in its form, say this value
abbrev pub in_form : {A : Type 0} → List Form → List (List ℕ) → A → Result A FieldFault
in_form forms f x =
    if length f == total_width forms then unless_bad (first_bad forms f 0) x else Err fault.Count
