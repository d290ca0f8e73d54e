-- How a custodian's histories change, row by row, and what becomes of its views.
use Rattle.std.specs.Prelude.{◌≡◌, ◌≢◌, ◌≤◌, ◌<◌, ◌⊎◌, ℕ, true, List, ◌∷◌}
use Rattle.std.specs.FinSet as set
use Rattle.sqlite.specs.declared.types.Value.{Value}
use Rattle.sqlite.specs.Order.{Row}
use Rattle.sqlite_rules.specs.Lists.{Has}
use Rattle.gaz_records.specs.Items.{is_entry, is_item}
use Rattle.gaz_records.specs.Keys.{key_of}
use Rattle.gaz_records.specs.Kinds.{number_of}
use Rattle.gaz_records.specs.declared.item.Item.{Item}
use Rattle.gaz_records.specs.declared.key.Key.{Key}
use Rattle.gaz_views.specs.View.{View, with_item, without_key}
use Rattle.gaz_cells.specs.Ids.{id_of, kind_in}
use Rattle.gaz_overlay.specs.Rows.{HistoryRow, view_after}
use Rattle.gaz_sql_facts.specs.Changes.{IsAdded}
use Rattle.gaz_tables.specs.Versions.{Closes}
use Rattle.gaz_row_items.specs.Versions.{histories_in, living, passages_in, values_of}
use Rattle.gaz_kept.specs.Kept.{AreInTurn, AreVersions, IsCode}

-- the key was used, and nothing stands there that didn't
abbrev pub with_use : View → Key → View
with_use v k = record v { used = set.insert v.used k }

-- ---- histories by their rows

-- both lists have the same rows, in whatever order and however often each
pub record AreSame {X : Type 0} (old new : List X) : Type 0 where
  pub only : (r : X) → Has new r → Has old r
  pub kept : (r : X) → Has old r → Has new r

-- these rows and one more
pub record Gain {X : Type 0} (h : X) (old new : List X) : Type 0 where
  pub only : (r : X) → Has new r → (r ≡ h) ⊎ Has old r
  pub there : Has new h
  pub kept : (r : X) → Has old r → Has new r

abbrev pub gone_with : ℕ → HistoryRow → HistoryRow
gone_with volume h = record h { gone = volume }

-- these rows, but one is gone with a volume
pub record Close (h : HistoryRow) (volume : ℕ) (old new : List HistoryRow) : Type 0 where
  pub only : (r : HistoryRow) → Has new r → (Has old r × (r ≢ h)) ⊎ (r ≡ gone_with volume h)
  pub there : Has new (gone_with volume h)
  pub kept : (r : HistoryRow) → Has old r → r ≢ h → Has new r

-- ---- the row that comes, and the row that goes

-- born under its own key after each row there, when each of them is gone
pub record IsNext (h : HistoryRow) (rows : List HistoryRow) : Type 0 where
  pub own : h.key ≡ key_of h.item
  pub later : (r : HistoryRow) → Has rows r → r.key ≡ h.key → r.born < h.born
  pub free : (r : HistoryRow) → Has rows r → r.key ≡ h.key → r.gone ≤ h.born

-- the last at its key
pub record IsLast (h : HistoryRow) (rows : List HistoryRow) : Type 0 where
  pub there : Has rows h
  pub last : (r : HistoryRow) → Has rows r → r.key ≡ h.key → r.born ≤ h.born

-- the item of a row goes with a volume in which it stands, or at its end
pub record GoesWith (h : HistoryRow) (volume : ℕ) : Type 0 where
  pub born : h.born ≤ volume
  pub gone : volume ≤ h.gone

-- ---- what becomes of the views

-- the views that a row makes of those before it came
pub record Gained (h : HistoryRow) (old new : List HistoryRow) : Type 0 where
  pub apart : AreInTurn new
  pub holding : (t : ℕ) → h.born ≤ t → t < h.gone
      → view_after new t ≡ with_item (view_after old t) h.item
  pub passed : (t : ℕ) → h.born ≤ t → h.gone ≤ t
      → view_after new t ≡ with_use (view_after old t) h.key
  pub before : (t : ℕ) → t < h.born → view_after new t ≡ view_after old t

-- the views without a row that has gone
pub record Closed (h : HistoryRow) (volume : ℕ) (old new : List HistoryRow) : Type 0 where
  pub apart : AreInTurn new
  pub gone : (t : ℕ) → volume ≤ t → view_after new t ≡ without_key (view_after old t) h.key
  pub before : (t : ℕ) → t < volume → view_after new t ≡ view_after old t

-- views follow from what rows there are
abbrev pub SameRows : Type 0
SameRows = (old new : List HistoryRow) → AreInTurn old → AreSame old new
    → (t : ℕ) → view_after new t ≡ view_after old t

abbrev pub RowsGain : Type 0
RowsGain = (h : HistoryRow) (old new : List HistoryRow) → AreInTurn old → IsNext h old
    → Gain h old new → Gained h old new

-- a row that is apart from those there makes the same of the views, in whatever order rows come
abbrev pub RowsJoin : Type 0
RowsJoin = (h : HistoryRow) (old new : List HistoryRow) → AreInTurn new → h.key ≡ key_of h.item
    → Gain h old new → Gained h old new

abbrev pub RowsClose : Type 0
RowsClose = (h : HistoryRow) (volume : ℕ) (old new : List HistoryRow) → AreInTurn old → IsLast h old
    → GoesWith h volume → Close h volume old new → Closed h volume old new

pub record HistoriesChange : Type 0 where
  pub same : SameRows
  pub gain : RowsGain
  pub join : RowsJoin
  pub close : RowsClose

-- ---- what a statement makes of the histories

-- what became of each custodian's numbers is as it was
abbrev pub SamePassages : List Row → List Row → Type 0
SamePassages old new = (c : ℕ) → AreSame (passages_in old c) (passages_in new c)

-- a row comes to those of its custodian, and no other custodian's rows change
pub record AddsVersion (c : ℕ) (h : HistoryRow) (old new : List Row) : Type 0 where
  pub gain : Gain h (histories_in old c) (histories_in new c)
  pub others : (d : ℕ) → d ≢ c → AreSame (histories_in old d) (histories_in new d)
  pub passages : SamePassages old new
  pub rows : AreVersions new

-- a row of its custodian's is gone with a volume, and no other custodian's rows change
pub record ClosesVersion (c volume : ℕ) (h : HistoryRow) (old new : List Row) : Type 0 where
  pub close : Close h volume (histories_in old c) (histories_in new c)
  pub others : (d : ℕ) → d ≢ c → AreSame (histories_in old d) (histories_in new d)
  pub passages : SamePassages old new
  pub rows : AreVersions new

abbrev pub InsertAdds : Type 0
InsertAdds = (id : Value) (c born gone : ℕ) (x : Item) (old new : List Row)
    → IsCode c → is_item x ≡ true → is_entry x ≡ true → 1 ≤ born → born ≤ gone
    → AreVersions old → IsAdded (id ∷ values_of c born gone x) old new
    → AddsVersion c (living born gone x) old new

abbrev pub UpdateCloses : Type 0
UpdateCloses = (c volume : ℕ) (h : HistoryRow) (old new : List Row) → h.born ≤ volume
    → AreVersions old → AreInTurn (histories_in old c) → Has (histories_in old c) h
    → Closes c (number_of (kind_in h.key)) (id_of h.key) h.born volume old new
    → ClosesVersion c volume h old new

pub record StatementsChange : Type 0 where
  pub insert : InsertAdds
  pub update : UpdateCloses
