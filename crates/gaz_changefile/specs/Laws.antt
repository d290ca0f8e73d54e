-- What a reading means, as a relation.
use Rattle.std.specs.Prelude.{◌≡◌, ◌≢◌, ◌⊎◌, ◌≤◌, ◌<◌, ℕ, suc, ◌+◌, List, [], ◌∷◌, ◌++◌, length}
use Rattle.std.specs.Prelude.{Bool, true, false, Some, codes, slice_get}
use Rattle.std.specs.List.{All}
use Rattle.std.specs.Str.{IsUtf8}
use Rattle.gaz_ids.specs.Limits.{last_code, last_volume}
use Rattle.gaz_rows.specs.Rows.{Fields, rows_of}
use Rattle.gaz_records.specs.Items.{is_entry}
use Rattle.gaz_changefile.specs.Allowed.{AreAllowed}
use Rattle.gaz_changefile.specs.Contents.{Contents, contents_of}
use Rattle.gaz_changefile.specs.Files.{AreBases, ArePlaced, IsTyped}
use Rattle.gaz_changefile.specs.Lines.{field, profile_named}
use Rattle.gaz_changefile.specs.Reading.{Bad, Good, Reading, reading}
use Rattle.gaz_changefile.specs.Rules.{rules_at}
use Rattle.gaz_changefile.specs.Writing.{file_text}

-- none of the rules is broken
abbrev pub AreKept : List (ℕ × Bool) → Type 0
AreKept [] = Unit {0}
AreKept ((rule, broken) ∷ rules) = (broken ≡ false) × AreKept rules

-- the rule is broken, and none that stands before it
pub record BreaksFirst (rules : List (ℕ × Bool)) (rule : ℕ) : Type 0 where
  pub before : List (ℕ × Bool)
  pub after : List (ℕ × Bool)
  pub split : rules ≡ before ++ ((rule, true) ∷ after)
  pub kept : AreKept before

-- the records, and the end of the file, keep all their rules
pub record IsGood (c v : ℕ) (bytes : List ℕ) (contents : Contents) : Type 0 where
  pub text : IsUtf8 bytes
  pub kept : (i : ℕ) → i ≤ length (rows_of bytes) → AreKept (rules_at c v (rows_of bytes) i)
  pub contents_are : contents ≡ contents_of (rows_of bytes)

-- the place is the least at which a rule is broken, and the rule is the first that is broken there
pub record IsLeast (c v : ℕ) (bytes : List ℕ) (place rule : ℕ) : Type 0 where
  pub text : IsUtf8 bytes
  pub index : ℕ
  pub place_is : place ≡ index + 1
  pub within : index ≤ length (rows_of bytes)
  pub broken : BreaksFirst (rules_at c v (rows_of bytes) index) rule
  pub least : (i : ℕ) → i < index → AreKept (rules_at c v (rows_of bytes) i)

-- what each reading means
abbrev pub TellsReading : List ℕ → ℕ → ℕ → Reading → Type 0
TellsReading bytes c v (Good contents) = IsGood c v bytes contents
TellsReading bytes c v (Bad place rule) =
    ((IsUtf8 bytes → ⊥) × (place ≡ 1) × (rule ≡ 1)) ⊎ IsLeast c v bytes place rule

abbrev pub LeastFault : Type 0
LeastFault = (bytes : List ℕ) (c v : ℕ) → TellsReading bytes c v (reading bytes c v)

-- the bases of a good file rise by custodian, and none is the own
abbrev pub BasesRise : Type 0
BasesRise =
    (bytes : List ℕ) (c v : ℕ) (contents : Contents) → reading bytes c v ≡ Good contents
    → AreBases c contents.bases

-- the changes of a good file are placed by the numbers of their records
abbrev pub ChangesArePlaced : Type 0
ChangesArePlaced =
    (bytes : List ℕ) (c v : ℕ) (contents : Contents) → reading bytes c v ≡ Good contents
    → ArePlaced contents.bases contents.changes

-- the changes of a good file of a custodian are allowed in it
abbrev pub ChangesAreAllowed : Type 0
ChangesAreAllowed =
    (bytes : List ℕ) (c v : ℕ) (contents : Contents) → reading bytes c v ≡ Good contents
    → AreAllowed c contents.changes

-- what a good file says is such as the types of its parts hold: its date is in the calendar, its
-- bases are codes and volumes, and its items are such as the table of fields allows
abbrev pub ReadingsAreTyped : Type 0
ReadingsAreTyped =
    (bytes : List ℕ) (c v : ℕ) (contents : Contents) → reading bytes c v ≡ Good contents
    → IsTyped contents

-- a record begins as a release or an adoption
abbrev pub BeginsPassing : Fields → Type 0
BeginsPassing row = (field row 0 ≡ codes "91") ⊎ (field row 0 ≡ codes "92")

-- records that hold entries alone, as if no other kinds of items were known: each change is of an
-- entry, and a release or an adoption behind the header breaks rule 5, unless it stands behind the
-- trailer; of no other rule is it asked
pub record HoldEntries (rows : List Fields) : Type 0 where
  pub entries : All (λ x. is_entry x.item ≡ true) (contents_of rows).changes
  pub others :
      (c v i : ℕ) (row : Fields) → slice_get rows (suc i) ≡ Some row → BeginsPassing row
      → (ended : Bool) × (rules_at c v rows (suc i) ≡ (8, ended) ∷ (5, true) ∷ [])

-- where the header doesn't name profile 2
abbrev pub EntriesAlone : Type 0
EntriesAlone = (rows : List Fields) → profile_named rows ≢ 2 → HoldEntries rows

-- what is written of an orderly file of a custodian and volume says that file
abbrev pub FilesReadBack : Type 0
FilesReadBack =
    (c v : ℕ) (f : Contents) → 1 ≤ c → c ≤ last_code → 1 ≤ v → v ≤ last_volume
    → IsTyped f → AreBases c f.bases → ArePlaced f.bases f.changes → AreAllowed c f.changes
    → reading (file_text c v f) c v ≡ Good f
