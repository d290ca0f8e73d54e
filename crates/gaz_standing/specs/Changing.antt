-- What a change makes of histories, of marks and of keys.
use Rattle.std.specs.Prelude.{◌≡◌, ◌⊎◌, ◌||◌, ◌&&◌, ℕ, Bool, true, false, not, List}
use Rattle.std.specs.Prelude.{Option, Some}
use Rattle.std.specs.Option.{option_map_or}
use Rattle.std.specs.Ordering.{eq_by_cmp}
use Rattle.gaz_histories.specs.Histories.{before, lived, with_version}
use Rattle.gaz_records.specs.Keys.{key_cmp}
use Rattle.gaz_records.specs.declared.item.Item.{Item}
use Rattle.gaz_records.specs.declared.key.Key.{Key}
use Rattle.gaz_views.specs.View.{View}
use Rattle.gaz_views.specs.Words.{entries}
use Rattle.gaz_standing.specs.Indexes.{has_key, has_mark, is_under, marked_at, same_mark}
use Rattle.gaz_standing.specs.KeyHistories.{ChangesAt, KeyHistories, versions_at}
use Rattle.gaz_standing.specs.declared.index.Index.{Index}
use Rattle.gaz_standing.specs.declared.index.Mark.{Mark}

-- ---- what stood at a key

-- from a volume on this item stands at the key, or none
abbrev pub SetsAt : KeyHistories → KeyHistories → ℕ → Key → Option Item → Type 0
SetsAt old new volume key item =
    ChangesAt old new key (with_version (versions_at old key) volume item)

-- what began at a volume or after it is forgotten at the key
abbrev pub CutsAt : KeyHistories → KeyHistories → ℕ → Key → Type 0
CutsAt old new volume key = ChangesAt old new key (before (versions_at old key) volume)

-- the item came to stand at the key from a volume on, and until another where one is given
abbrev pub LivesAt : KeyHistories → KeyHistories → Key → ℕ → Option ℕ → Item → Type 0
LivesAt old new key born gone i = ChangesAt old new key (lived (versions_at old key) born gone i)

-- ---- marks, of which an item has two at most

abbrev pub Pair : Type 0
Pair = Option Mark × Option Mark

-- the mark is one of these two
abbrev pub IsOneOf : Pair → Mark → Type 0
IsOneOf marks m = (marks.0 ≡ Some m) ⊎ (marks.1 ≡ Some m)

-- each mark of the item, where there is one, is one of these
abbrev pub HasMarksIn : Option Item → Pair → Type 0
HasMarksIn item marks =
    (m : Mark) → option_map_or (has_mark m) item false ≡ true → IsOneOf marks m

-- each mark of the item that stands at a key is one of these
abbrev pub AreMarksAt : View → Key → Pair → Type 0
AreMarksAt view key marks =
    (m : Mark) → marked_at (entries view) m key ≡ true → IsOneOf marks m

-- ---- keys under marks

-- these are this mark and this key
abbrev pub is_pair : Mark → Key → Mark → Key → Bool
is_pair mark key m k = same_mark mark m && eq_by_cmp key_cmp key k

-- the key is under the mark too, and all else is as it was
abbrev pub AddsUnder : Index → Index → Mark → Key → Type 0
AddsUnder old new mark key =
    (m : Mark) → (k : Key) → is_under new m k ≡ (is_pair mark key m k || is_under old m k)

-- the key is no more under the mark, and all else is as it was
abbrev pub TakesUnder : Index → Index → Mark → Key → Type 0
TakesUnder old new mark key =
    (m : Mark) → (k : Key) → is_under new m k ≡ (not (is_pair mark key m k) && is_under old m k)

-- the keys under each mark are those that were there
abbrev pub SameUnder : Index → Index → Type 0
SameUnder old new = (m : Mark) → (k : Key) → is_under new m k ≡ is_under old m k

-- each key that was under a mark is there still
abbrev pub KeepsUnder : Index → Index → Type 0
KeepsUnder old new = (m : Mark) → (k : Key) → is_under old m k ≡ true → is_under new m k ≡ true

-- the key is under each mark of the item
abbrev pub IsUnderItsMarks : Index → Key → Item → Type 0
IsUnderItsMarks index key item = (m : Mark) → has_mark m item ≡ true → is_under index m key ≡ true

-- ---- keys in a list

-- the key is among them too
abbrev pub AddsKey : List Key → List Key → Key → Type 0
AddsKey old new key = (k : Key) → has_key new k ≡ (eq_by_cmp key_cmp key k || has_key old k)

-- the key is no more among them
abbrev pub TakesKey : List Key → List Key → Key → Type 0
TakesKey old new key = (k : Key) → has_key new k ≡ (not (eq_by_cmp key_cmp key k) && has_key old k)
