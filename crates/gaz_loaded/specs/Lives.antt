-- What a keeper lists, and how much of it is at hand.
use Rattle.std.specs.Prelude.{◌≡◌, ◌≤◌, ◌<◌, ◌==◌, ⊤, ℕ, ℤ, ◌<ℤ◌, ◌≤ℤ◌, if◌then◌else◌, List}
use Rattle.std.specs.Prelude.{Option, Some, None, unwrap_or}
use Rattle.std.specs.List.{filter_map}
use Rattle.sqlite_rules.specs.Lists.{Has}
use Rattle.gaz_records.specs.Keys.{key_of}
use Rattle.gaz_keeper.specs.Board.{Board, reached, view_after}
use Rattle.gaz_overlay.specs.Passages.{PassageRow}
use Rattle.gaz_overlay.specs.Rows.{HistoryRow, never}
use Rattle.gaz_overlay.specs.Rows as rows
use Rattle.gaz_kept.specs.Kept.{AreInTurn, ArePassages}
use Rattle.gaz_shelf.specs.Restoring.{IsRestored}

-- an item that stood under its key for a custodian from a volume until another, or stands there, as
-- it is told at a place
pub record Told : Type 0 where
  pub place : ℤ
  pub code : ℕ
  pub life : HistoryRow

abbrev pub life_of : ℕ → Told → Option HistoryRow
life_of c x = if x.code == c then Some x.life else None

-- a custodian's
abbrev pub lives_of : ℕ → List Told → List HistoryRow
lives_of c all = filter_map (life_of c) all

-- the views on a board are made of these, and of what became of each custodian's numbers
pub record AreOf (all : List Told) (passages : ℕ → List PassageRow) (board : Board) : Type 0 where
  pub own : (x : Told) → Has all x → x.life.key ≡ key_of x.life.item
  pub apart : (c : ℕ) → AreInTurn (lives_of c all)
  pub passed : (c : ℕ) → ArePassages (reached board c) (passages c)
  pub few : (c : ℕ) → reached board c < never
  pub views : (c t : ℕ) → t ≤ reached board c
      → view_after board c t ≡ rows.view_of_rows (lives_of c all) (passages c) t

-- `gone` of a row
abbrev pub gone_of : Option ℕ → ℕ
gone_of gone = unwrap_or gone never

-- a life is told at this place or before it
abbrev pub IsBy : Option ℤ → Told → Type 0
IsBy None x = ⊥
IsBy (Some place) x = x.place ≤ℤ place

-- a life is told behind this place, or anywhere where there is none
abbrev pub IsBehind : Option ℤ → Told → Type 0
IsBehind None x = ⊤
IsBehind (Some place) x = place <ℤ x.place

-- the views on a board are made of lives among these, with each that is told up to a place, and of
-- all that became of numbers
pub record AreAtHand (place : Option ℤ) (all : List Told) (passages : ℕ → List PassageRow)
    (board : Board) : Type 0 where
  pub lives : ℕ → List HistoryRow
  pub only : (c : ℕ) (h : HistoryRow) → Has (lives c) h → Has (lives_of c all) h
  pub those : (x : Told) → Has all x → IsBy place x → Has (lives x.code) x.life
  pub views : (c t : ℕ) → t ≤ reached board c
      → view_after board c t ≡ rows.view_of_rows (lives c) (passages c) t

-- of those behind a place it is told first
pub record IsFirst (place : Option ℤ) (all : List Told) (x : Told) : Type 0 where
  pub there : Has all x
  pub first : (y : Told) → Has all y → IsBehind place y → y.place ≤ℤ x.place → y ≡ x

-- ---- laws

-- once it is restored, all up to it are at hand
abbrev pub RestoredIsAtHand : Type 0
RestoredIsAtHand = (place : Option ℤ) (all : List Told) (passages : ℕ → List PassageRow)
    → (kept old new : Board) (x : Told) (gone : Option ℕ) → AreOf all passages kept
    → ((c : ℕ) → reached old c ≡ reached kept c) → AreAtHand place all passages old
    → IsFirst place all x → x.life.gone ≡ gone_of gone
    → IsRestored old new x.code x.life.born gone x.life.item
    → AreAtHand (Some x.place) all passages new

-- once all lives are told, the views are those that are kept
abbrev pub AllAtHand : Type 0
AllAtHand = (place : Option ℤ) (all : List Told) (passages : ℕ → List PassageRow)
    → (kept board : Board) → AreOf all passages kept → AreAtHand place all passages board
    → ((x : Told) → Has all x → IsBy place x)
    → (c t : ℕ) → t ≤ reached board c → t ≤ reached kept c
    → view_after board c t ≡ view_after kept c t

pub record LivesJoin : Type 0 where
  pub restored : RestoredIsAtHand
  pub all : AllAtHand
