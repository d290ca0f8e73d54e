-- What the tables become when a file comes and when a volume is rejected.
use Rattle.std.specs.Prelude.{◌≡◌, ℕ, pos, List, None, IsSome}
use Rattle.std.specs.FinMap as finite
use Rattle.sqlite.specs.Effect.{Database}
use Rattle.gaz_tables.specs.Receiveds.{Rejects, unjudged}
use Rattle.gaz_tables.specs.Schema.{received}
use Rattle.gaz_tables.specs.Stores.{AddsRow, ChangesTable}
use Rattle.gaz_tables.specs.Tables.{rows_of}
use Rattle.gaz_kept.specs.Files.{files_in}
use Rattle.gaz_overlay.specs.Changes.{Changes as Overlaid}
use Rattle.gaz_kept.specs.Keeping.{KeepsVolume}
use Rattle.gaz_kept.specs.Kept.{IsKept}
use Rattle.gaz_kept.specs.Stands.{next_in}
use Rattle.gaz_calls.specs.Remembered.{AreSo}
use Rattle.gaz_counts.specs.declared.counts.Counts.{Counts}

-- ---- a file

-- a custodian's volume was not received yet
abbrev pub IsNewIn : ℕ → ℕ → Database → Type 0
IsNewIn c volume db = finite.get (files_in (rows_of db received)) (c, volume) ≡ None

-- its file comes, and nobody has judged it
abbrev pub Comes : ℕ → ℕ → List ℕ → Database → Database → Type 0
Comes c volume bytes = ChangesTable received (AddsRow (unjudged c volume bytes))

-- ---- a rejection

-- a custodian's next volume was received
abbrev pub IsNextIn : ℕ → Database → Type 0
IsNextIn c db = IsSome (finite.get (files_in (rows_of db received)) (c, next_in db c))

-- a custodian's next volume is rejected at a place by a rule
abbrev pub RejectsNext : ℕ → ℕ → ℕ → Database → Database → Type 0
RejectsNext c place rule old new =
    ChangesTable received (Rejects c (next_in old c) (pos place) rule) old new

-- ---- a judgement

-- what it has changed is written as the next volume, which is marked applied
abbrev pub AppliesNext : ℕ → Overlaid → Database → Database → Type 0
AppliesNext c changes old new = KeepsVolume c (next_in old c) changes old new

-- a database becomes another where the tables are a store's and what is at hand is so of them
abbrev pub WhereSo : Counts → (Database → Database → Type 0) → Database → Database → Type 0
WhereSo at_hand Becomes old new =
    IsKept old → AreSo at_hand (rows_of old received) → Becomes old new
