-- What the rows of an answer say.
use Rattle.std.specs.Prelude.{◌≡◌, ◌≤◌, ℕ, List, [], ◌∷◌, Option, Some, None}
use Rattle.std.specs.Global.{Vec}
use Rattle.sqlite.specs.declared.types.Value.TheVariants.{Blob}
use Rattle.sqlite.specs.Order.{Row, column}
use Rattle.gaz_views.specs.declared.verdict.Verdict.{Verdict}
use Rattle.gaz_row_items.specs.Versions.{IsWhole, number_in}
use Rattle.gaz_kept.specs.Files.{verdict_of}

-- the most rows of one answer
abbrev pub most_rows : ℕ
most_rows = 512

-- the verdict of the first row, of state, place and rule
abbrev pub SaysVerdict : List Row → Option Verdict → Type 0
SaysVerdict [] v = v ≡ None
SaysVerdict (r ∷ rows) v =
    v ≡ verdict_of (number_in (column r 0)) (number_in (column r 1)) (number_in (column r 2))

-- the bytes of the first row
abbrev pub SaysBytes : List Row → Option (Vec ℕ) → Type 0
SaysBytes [] b = b ≡ None
SaysBytes (r ∷ rows) b = (v : Vec ℕ) × (b ≡ Some v) × (column r 0 ≡ Blob v.items)

-- ---- as a store writes them

-- a row of state, place and rule says whether a file waits, and else its verdict
pub record ShowsVerdict (r : Row) : Type 0 where
  pub state : IsWhole (column r 0)
  pub place : IsWhole (column r 1)
  pub rule : IsWhole (column r 2)
  pub states : number_in (column r 0) ≤ 2
  pub rules : number_in (column r 2) ≤ 255

-- bytes stand in the first column
abbrev pub ShowsBytes : Row → Type 0
ShowsBytes r = (b : List ℕ) × (column r 0 ≡ Blob b)
