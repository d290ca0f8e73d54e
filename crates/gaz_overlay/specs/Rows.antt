-- The rows in which tables keep a custodian's histories, and what becomes of them with a volume.
use Rattle.std.specs.Prelude.{◌≡◌, ◌≤◌, ◌<◌, ◌+◌, ◌==◌, ◌&&◌, ◌⊎◌, ◌++◌, ℕ, false, Bool, nat_le}
use Rattle.std.specs.Prelude.{nat_lt, List, [], ◌∷◌, map, filter, Option, option_map, if◌then◌else◌}
use Rattle.std.specs.FinMap as finite
use Rattle.std.specs.FinSet as set
use Rattle.std.specs.List.{AllByRecursion, filter_map}
use Rattle.std.specs.Option.{option_map_or}
use Rattle.gaz_records.specs.declared.item.Item.{Item}
use Rattle.gaz_records.specs.declared.key.Key.{Key}
use Rattle.gaz_views.specs.View.{View, view_of}
use Rattle.gaz_overlay.specs.Changes.{Changes, stood_in}
use Rattle.gaz_overlay.specs.Over.{Make}
use Rattle.gaz_overlay.specs.Passages.{PassageRow, PassOn, with_passages}
use Rattle.gaz_overlay.specs.Writings.{writing_at}
use Rattle.gaz_overlay.specs.declared.touch.NewRow.{NewRow}
use Rattle.gaz_overlay.specs.declared.touch.Stood.TheVariants.{Since}

-- ---- histories in rows

-- `gone` of a row that is current
abbrev pub never : ℕ
never = 1000000

-- an item stands under a key in the views after volumes t with born <= t < gone
pub record HistoryRow : Type 0 where
  pub key : Key
  pub born : ℕ
  pub gone : ℕ
  pub item : Item

abbrev pub holds_after : ℕ → HistoryRow → Bool
holds_after t r = nat_le r.born t && nat_lt t r.gone

abbrev pub is_born_by : ℕ → HistoryRow → Bool
is_born_by t r = nat_le r.born t

-- the view after a volume; a key was used where it has a row that was born by then, also one that
-- never held
unfoldable pub view_after : List HistoryRow → ℕ → View
view_after rows t =
    view_of (finite.from_entries (map (λ r. (r.key, r.item)) (filter (holds_after t) rows)))
    (set.from_list (map (λ r. r.key) (filter (is_born_by t) rows)))

-- ---- what is written

-- the row is the one that was born in this volume
abbrev pub is_of_birth : Option ℕ → HistoryRow → Bool
is_of_birth born r = option_map_or (λ b. b == r.born) born false

-- the row, gone with a volume where the changes close it
abbrev pub closed : ℕ → Changes → HistoryRow → HistoryRow
closed volume c r =
    if is_of_birth (writing_at c r.key).closes r then record r { gone = volume } else r

-- a row that is born in a volume, and gone with it unless it is current
abbrev pub new_row : ℕ → Key → NewRow → HistoryRow
new_row volume k n =
    record { key = k; born = volume; gone = if n.current then never else volume; item = n.item }

abbrev pub added : ℕ → Changes → Key → Option HistoryRow
added volume c k = option_map (new_row volume k) (writing_at c k).adds

-- the rows once each touched key is written for a volume
unfoldable pub written : ℕ → Changes → List HistoryRow → List HistoryRow
written volume c rows =
    map (closed volume c) rows ++ filter_map (added volume c) (finite.keys c.touched)

-- ---- histories through a volume

-- the row was born in a volume up to n, and was gone by then or is current
pub record IsUntil (n : ℕ) (r : HistoryRow) : Type 0 where
  pub born : r.born ≤ n
  pub gone : (r.gone ≤ n) ⊎ (r.gone ≡ never)

-- the row is gone when a later one is born
pub record IsBefore (a b : HistoryRow) : Type 0 where
  pub born : a.born < b.born
  pub gone : a.gone ≤ b.born

-- of two rows of a key one is before the other
abbrev pub AreApart : HistoryRow → HistoryRow → Type 0
AreApart a b = a.key ≡ b.key → IsBefore a b ⊎ IsBefore b a

-- each two of these rows are so apart
abbrev pub AllApart : List HistoryRow → Type 0
AllApart [] = Unit {0}
AllApart (r ∷ rows) = AllByRecursion (AreApart r) rows × AllApart rows

pub record AreHistories (n : ℕ) (rows : List HistoryRow) : Type 0 where
  pub until : AllByRecursion (IsUntil n) rows
  pub apart : AllApart rows

-- ---- what it comes to

-- the row is the current one of a key, born in this volume
pub record IsCurrent (k : Key) (volume : ℕ) (r : HistoryRow) : Type 0 where
  pub of_key : r.key ≡ k
  pub of_birth : r.born ≡ volume
  pub is_current : r.gone ≡ never

abbrev pub HasCurrent : List HistoryRow → Key → ℕ → Type 0
HasCurrent [] k volume = ⊥
HasCurrent (r ∷ rows) k volume = IsCurrent k volume r ⊎ HasCurrent rows k volume

-- the rows have the current rows that were told when keys were touched
pub record AreTold (c : Changes) (rows : List HistoryRow) : Type 0 where
  pub told : (k : Key) (volume : ℕ) → stood_in c.touched k ≡ Since volume → HasCurrent rows k volume

-- the view after a volume, of the rows of items and of passages
abbrev pub view_of_rows : List HistoryRow → List PassageRow → ℕ → View
view_of_rows rows passages t = with_passages (view_after rows t) passages t

-- these rows, beside their passages, keep a volume: the working view is the view after it, the
-- views before it stay, and the rows are those of histories again
pub record KeepVolume (old : List HistoryRow) (was : List PassageRow) (n : ℕ) (working : View)
    (new : List HistoryRow) (are : List PassageRow) : Type 0 where
  pub next : view_of_rows new are (n + 1) ≡ working
  pub past : (t : ℕ) → t ≤ n → view_of_rows new are t ≡ view_of_rows old was t
  pub histories : AreHistories (n + 1) new

-- what is written for the touched keys keeps the volume, where what was passed on is written too
abbrev pub WritingsKeep : Type 0
WritingsKeep = (rows : List HistoryRow) (was : List PassageRow) (n : ℕ) (c : Changes) (w : View)
    → (are : List PassageRow) → n + 1 < never → AreHistories n rows → AreTold c rows
    → Make (view_of_rows rows was n) c w → PassOn c n was are
    → KeepVolume rows was n w (written (n + 1) c rows) are
