-- The row of a key that was born last.
use Rattle.std.specs.Prelude.{◌≡◌, ◌≤◌, ◌==◌, ⊤, ℕ, pos, nat_lt, if◌then◌else◌}
use Rattle.std.specs.Prelude.{List, [], ◌∷◌, Option, Some, None, option_map}
use Rattle.std.specs.FinMap as map
use Rattle.sqlite.specs.Order.{Row, column}
use Rattle.sqlite.specs.declared.types.Value.TheVariants.{Int}
use Rattle.sqlite_rules.specs.Lists.{Has}
use Rattle.gaz_records.specs.declared.key.Key.{Key}
use Rattle.gaz_records.specs.declared.item.Item.{Item}
use Rattle.gaz_views.specs.View.{View}
use Rattle.gaz_overlay.specs.Over.{IsStood, key_view}
use Rattle.gaz_overlay.specs.Rows.{HasCurrent, HistoryRow, never}
use Rattle.gaz_overlay.specs.declared.touch.Stood.{Stood}
use Rattle.gaz_overlay.specs.declared.touch.Stood.TheVariants.{NoRow, Past, Since}
use Rattle.gaz_row_items.specs.Decoding.{IsItemAt}
use Rattle.gaz_row_items.specs.declared.newest.Life.{Life}

-- ---- what an answer says

-- a row of born, gone and body
pub record SaysLife (k : Key) (r : Row) (life : Life) : Type 0 where
  pub born : column r 0 ≡ Int (pos life.born)
  pub gone : column r 1 ≡ Int (pos life.gone)
  pub item : IsItemAt r 2 k life.item

-- the first row
abbrev pub SaysNewest : Key → List Row → Option Life → Type 0
SaysNewest k [] life = life ≡ None
SaysNewest k (r ∷ rows) None = ⊥
SaysNewest k (r ∷ rows) (Some life) = SaysLife k r life

-- ---- as a store writes them

-- a row of born, gone and body says some life at a key
abbrev pub HasLife : Key → Row → Type 0
HasLife k r = (life : Life) × SaysLife k r life

-- the first row says one, or there is no row
abbrev pub HasNewest : Key → List Row → Type 0
HasNewest k rows = (life : Option Life) × SaysNewest k rows life

-- ---- what it is of the histories

-- of the rows of a key that pass, this was born last
pub record IsLatest (Passes : HistoryRow → Type 0) (rows : List HistoryRow) (k : Key)
    (h : HistoryRow) : Type 0 where
  pub there : Has rows h
  pub of_key : h.key ≡ k
  pub passes : Passes h
  pub last : (r : HistoryRow) → Has rows r → r.key ≡ k → Passes r → r.born ≤ h.born

-- of the rows of a key that pass, this was born last; none where none passes
abbrev pub IsLatestOf : (HistoryRow → Type 0) → List HistoryRow → Key → Option HistoryRow → Type 0
IsLatestOf Passes rows k None = (r : HistoryRow) → Has rows r → r.key ≡ k → ¬ Passes r
IsLatestOf Passes rows k (Some h) = IsLatest Passes rows k h

-- what a key's row says
abbrev pub row_of : Key → Life → HistoryRow
row_of k life = record { key = k; born = life.born; gone = life.gone; item = life.item }

-- the newest row of a key, or none
abbrev pub IsNewest : List HistoryRow → Key → Option Life → Type 0
IsNewest rows k life = IsLatestOf (λ r. ⊤) rows k (option_map (row_of k) life)

-- the newest that was born in a volume or before, or none
abbrev pub IsNewestUntil : ℕ → List HistoryRow → Key → Option Life → Type 0
IsNewestUntil volume rows k life =
    IsLatestOf (λ r. r.born ≤ volume) rows k (option_map (row_of k) life)

-- ---- what of it holds

-- the item that holds after a volume
abbrev pub item_after : ℕ → Option Life → Option Item
item_after volume None = None
item_after volume (Some life) = if nat_lt volume life.gone then Some life.item else None

-- the item that is current
abbrev pub current_in : Option Life → Option Item
current_in None = None
current_in (Some life) = if life.gone == never then Some life.item else None

-- what stands at the key
abbrev pub stood_of : (born gone : ℕ) → Stood
stood_of born gone = if gone == never then Since born else Past

abbrev pub stood_by : Option Life → Stood
stood_by None = NoRow
stood_by (Some life) = stood_of life.born life.gone

-- the first row says so, whatever its item
abbrev pub SaysStood : List Row → Stood → Type 0
SaysStood [] stood = stood ≡ NoRow
SaysStood (r ∷ rows) stood = (born : ℕ) × (gone : ℕ) × (column r 0 ≡ Int (pos born))
    × (column r 1 ≡ Int (pos gone)) × (stood ≡ stood_of born gone)

-- it says what stands at its key, or there is no row
abbrev pub HasStood : List Row → Type 0
HasStood rows = (stood : Stood) × SaysStood rows stood

-- what stands at a key of a last view, and the item there
pub record TellsStood (rows : List HistoryRow) (last : View) (k : Key) (stood : Stood)
    (item : Option Item) : Type 0 where
  pub is_stood : IsStood stood (key_view last k)
  pub is_item : item ≡ map.get last.items k
  pub current : (volume : ℕ) → stood ≡ Since volume → HasCurrent rows k volume
