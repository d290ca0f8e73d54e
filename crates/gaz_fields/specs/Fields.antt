-- The fields of a record, and what a reading of them may answer.
use Rattle.std.specs.Prelude.{◌≡◌, ◌⊎◌, ℕ, ◌+◌, ◌==◌, List, [], length, Option, Some, None, Result}
use Rattle.std.specs.Prelude.{Ok, Err, if◌then◌else◌}
use Rattle.std.specs.Option.{unwrap_or}
use Rattle.csv.specs.Records.{field_at}
use Rattle.gaz_fields.specs.declared.fields.FieldFault.{FieldFault}
use Rattle.gaz_fields.specs.declared.fields.FieldFault.TheVariants as fault

-- the field at a place, from 0; a missing one is empty
abbrev pub field : List (List ℕ) → ℕ → List ℕ
field row i = unwrap_or (field_at row i) []

-- nothing where there are so many fields
abbrev pub counted : ℕ → List (List ℕ) → Result Unit FieldFault
counted count f = if length f == count then Ok tt else Err fault.Count

-- what the field at a place says, or that it has a wrong form
abbrev pub TellsField : {A : Type 0} → Result A FieldFault → ℕ → Option A → Type 0
TellsField (Ok x) i said = said ≡ Some x
TellsField (Err e) i said = (said ≡ None) × (e ≡ fault.Form (i + 1))

-- what the field at a place says, or that it has a wrong form, or want of memory
abbrev pub TellsFieldOrMemory : {A : Type 0} → Result A FieldFault → ℕ → Option A → Type 0
TellsFieldOrMemory (Ok x) i said = said ≡ Some x
TellsFieldOrMemory (Err e) i said = (e ≡ fault.Memory) ⊎ ((said ≡ None) × (e ≡ fault.Form (i + 1)))

-- the answer, or want of memory in its place
abbrev pub OrMemory : {A : Type 0} → Result A FieldFault → Result A FieldFault → Type 0
OrMemory result answer = (result ≡ answer) ⊎ (result ≡ Err fault.Memory)
