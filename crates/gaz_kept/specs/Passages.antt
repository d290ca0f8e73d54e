-- How what became of a custodian's numbers changes, row by row, and what its rows say.
use Rattle.std.specs.Prelude.{◌≡◌, ◌≢◌, ◌≤◌, ◌<◌, ◌⊎◌, ℕ, true, List, ◌∷◌, Option, Some, None}
use Rattle.std.specs.Prelude.{is_some, option_map}
use Rattle.std.specs.FinMap as map
use Rattle.sqlite.specs.declared.types.Value.{Value}
use Rattle.sqlite.specs.Order.{Row}
use Rattle.sqlite_rules.specs.Lists.{Has}
use Rattle.gaz_records.specs.Blpus.{is_uprn}
use Rattle.gaz_records.specs.declared.key.Key.TheVariants as key
use Rattle.gaz_views.specs.declared.custody.Custody.{Custody}
use Rattle.gaz_cells.specs.Custody.{custody_kind, is_custody}
use Rattle.gaz_cells.specs.Ids.{id_of}
use Rattle.gaz_overlay.specs.Passages.{PassageRow, custody_after, has_passed}
use Rattle.gaz_overlay.specs.Rows.{never}
use Rattle.gaz_sql_facts.specs.Changes.{IsAdded}
use Rattle.gaz_tables.specs.Versions.{Closes}
use Rattle.gaz_row_items.specs.Versions.{histories_in, passage_values, passages_in, passing}
use Rattle.gaz_kept.specs.Histories.{AreSame, Gain}
use Rattle.gaz_kept.specs.Kept.{ArePassages, AreVersions, IsCode}

-- ---- what a statement makes of the rows

abbrev pub ended_with : ℕ → PassageRow → PassageRow
ended_with volume p = record p { gone = volume }

-- these rows, but one is gone with a volume
pub record Ends (p : PassageRow) (volume : ℕ) (old new : List PassageRow) : Type 0 where
  pub only : (r : PassageRow) → Has new r → (Has old r × (r ≢ p)) ⊎ (r ≡ ended_with volume p)
  pub there : Has new (ended_with volume p)
  pub kept : (r : PassageRow) → Has old r → r ≢ p → Has new r

-- the rows of items are as they were
abbrev pub SameHistories : List Row → List Row → Type 0
SameHistories old new = (c : ℕ) → AreSame (histories_in old c) (histories_in new c)

-- a row comes to those of its custodian, and no other custodian's rows change
pub record AddsPassing (c : ℕ) (p : PassageRow) (old new : List Row) : Type 0 where
  pub gain : Gain p (passages_in old c) (passages_in new c)
  pub others : (d : ℕ) → d ≢ c → AreSame (passages_in old d) (passages_in new d)
  pub histories : SameHistories old new
  pub rows : AreVersions new

-- a row of its custodian's is gone with a volume, and no other custodian's rows change
pub record EndsPassing (c volume : ℕ) (p : PassageRow) (old new : List Row) : Type 0 where
  pub ends : Ends p volume (passages_in old c) (passages_in new c)
  pub others : (d : ℕ) → d ≢ c → AreSame (passages_in old d) (passages_in new d)
  pub histories : SameHistories old new
  pub rows : AreVersions new

-- of a number no two rows were born in one volume
abbrev pub ArePassedOnce : List PassageRow → Type 0
ArePassedOnce rows = (a b : PassageRow) → Has rows a → Has rows b → a.uprn ≡ b.uprn
    → a.born ≡ b.born → a ≡ b

abbrev pub InsertPasses : Type 0
InsertPasses = (id : Value) (c born gone uprn : ℕ) (x : Custody) (old new : List Row)
    → IsCode c → is_uprn uprn ≡ true → is_custody x ≡ true → 1 ≤ born → born ≤ gone
    → AreVersions old → IsAdded (id ∷ passage_values c born gone uprn x) old new
    → AddsPassing c (passing born gone (uprn, x)) old new

abbrev pub UpdateEnds : Type 0
UpdateEnds = (c volume : ℕ) (p : PassageRow) (old new : List Row) → p.born ≤ volume
    → AreVersions old → ArePassedOnce (passages_in old c) → Has (passages_in old c) p
    → Closes c custody_kind (id_of (key.Blpu p.uprn)) p.born volume old new
    → EndsPassing c volume p old new

-- ---- what the rows say

-- of a number's rows that were born until a volume, this was born last
pub record IsLastPassage (t : ℕ) (rows : List PassageRow) (uprn : ℕ) (p : PassageRow)
    : Type 0 where
  pub there : Has rows p
  pub of_number : p.uprn ≡ uprn
  pub born : p.born ≤ t
  pub last : (r : PassageRow) → Has rows r → r.uprn ≡ uprn → r.born ≤ t → r.born ≤ p.born

-- of a number's rows that were born until a volume, this was born last; none where none was
abbrev pub IsLastOf : ℕ → List PassageRow → ℕ → Option PassageRow → Type 0
IsLastOf t rows uprn None = (r : PassageRow) → Has rows r → r.uprn ≡ uprn → ¬ (r.born ≤ t)
IsLastOf t rows uprn (Some p) = IsLastPassage t rows uprn p

-- the row that was born last says what became of the number, and that its BLPU's key is used
pub record PassagesSay (t : ℕ) (rows : List PassageRow) (uprn : ℕ) (o : Option PassageRow)
    : Type 0 where
  pub custody : map.get (custody_after rows t) uprn ≡ option_map (λ p. p.custody) o
  pub used : has_passed rows t (key.Blpu uprn) ≡ is_some o

abbrev pub RowsSay : Type 0
RowsSay = (n t uprn : ℕ) (rows : List PassageRow) (o : Option PassageRow) → t < never
    → ArePassages n rows → IsLastOf t rows uprn o → PassagesSay t rows uprn o

-- the last of all is current
abbrev pub LastIsCurrent : Type 0
LastIsCurrent = (n uprn : ℕ) (rows : List PassageRow) (p : PassageRow) → ArePassages n rows
    → IsLastPassage n rows uprn p → p.gone ≡ never

pub record PassagesChange : Type 0 where
  pub insert : InsertPasses
  pub update : UpdateEnds
  pub say : RowsSay
  pub current : LastIsCurrent
