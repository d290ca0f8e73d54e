-- What is written when a judgement is kept, and what the tables stand for then.
use Rattle.std.specs.Prelude.{◌≡◌, true, ℕ, if◌then◌else◌, List, [], ◌∷◌}
use Rattle.std.specs.Prelude.{Option, Some, None, Result, OnOk}
use Rattle.std.specs.FinMap as finite
use Rattle.sqlite.specs.Effect.{Database}
use Rattle.sqlite.specs.Held.{Held, state}
use Rattle.sqlite.specs.Order.{Row}
use Rattle.sqlite.specs.State.{State, HasCleanDisk, Survives}
use Rattle.sqlite.specs.declared.error.Error.{Error}
use Rattle.sqlite_trees.specs.declared.store.Store.{Ghosts}
use Rattle.gaz_records.specs.Blpus.{is_uprn}
use Rattle.gaz_records.specs.Items.{is_item}
use Rattle.gaz_records.specs.Kinds.{number_of}
use Rattle.gaz_records.specs.declared.key.Key.{Key}
use Rattle.gaz_records.specs.declared.key.Key.TheVariants as key
use Rattle.gaz_views.specs.View.{View, empty_view}
use Rattle.gaz_views.specs.declared.verdict.Verdict.TheVariants as verdict
use Rattle.gaz_views.specs.declared.custody.Custody.{Custody}
use Rattle.gaz_cells.specs.Custody.{custody_kind, is_custody}
use Rattle.gaz_cells.specs.Ids.{id_of, kind_in}
use Rattle.gaz_keeper.specs.Board.{Judgement}
use Rattle.gaz_keeper.specs.Keeper.{IsAtHand, with_judgement}
use Rattle.gaz_overlay.specs.Changes.{Changes}
use Rattle.gaz_overlay.specs.Over.{Make}
use Rattle.gaz_overlay.specs.Rows.{AreTold, never}
use Rattle.gaz_overlay.specs.Writings.{passage_at, writing_at}
use Rattle.gaz_overlay.specs.declared.passage.Passage.{Passage}
use Rattle.gaz_overlay.specs.declared.touch.NewRow.{NewRow}
use Rattle.gaz_overlay.specs.declared.touch.Writing.{Writing}
use Rattle.gaz_sql_facts.specs.Changes as table
use Rattle.gaz_tables.specs.Receiveds.{Applies}
use Rattle.gaz_tables.specs.Schema.{received, version2}
use Rattle.gaz_tables.specs.Stores.{AddsRow, ChangesTable, HasTables}
use Rattle.gaz_tables.specs.Versions.{Closes}
use Rattle.gaz_tables.specs.Tables.{rows_of}
use Rattle.gaz_row_items.specs.NewestPassages.{HasPassage}
use Rattle.gaz_row_items.specs.Versions.{histories_in, passage_values, passages_in, values_of}
use Rattle.gaz_kept.specs.Contents.{content_in}
use Rattle.gaz_kept.specs.Kept.{IsCode, IsKept}
use Rattle.gaz_kept.specs.LastViews.{last_in}
use Rattle.gaz_kept.specs.Stands.{Stands, next_in}

-- ---- what is written

-- the key's row that was born in a volume is gone with this one
abbrev pub ClosesRow : ℕ → ℕ → Key → Option ℕ → List Row → List Row → Type 0
ClosesRow c volume k None old new = new ≡ old
ClosesRow c volume k (Some born) old new =
    Closes c (number_of (kind_in k)) (id_of k) born volume old new

-- an item's row, of a custodian's code, is born in this volume, and gone with it unless it is
-- current
abbrev pub AddsItem : ℕ → ℕ → Option NewRow → List Row → List Row → Type 0
AddsItem c volume None old new = new ≡ old
AddsItem c volume (Some r) old new = IsCode c × (is_item r.item ≡ true)
    × AddsRow (values_of c volume (if r.current then never else volume) r.item) old new

-- the rows once a key is written
pub record WritesKey (c volume : ℕ) (k : Key) (w : Writing) (old new : List Row) : Type 0 where
  pub between : List Row
  pub closes : ClosesRow c volume k w.closes old between
  pub adds : AddsItem c volume w.adds between new

-- the rows once these keys are written in turn
abbrev pub WritesKeys : ℕ → ℕ → Changes → List Key → List Row → List Row → Type 0
WritesKeys c volume changes [] old new = new ≡ old
WritesKeys c volume changes (k ∷ keys) old new = (between : List Row)
    × WritesKey c volume k (writing_at changes k) old between
    × WritesKeys c volume changes keys between new

-- a number's passage that was born in a volume is gone with this one
abbrev pub EndsRow : ℕ → ℕ → ℕ → Option ℕ → List Row → List Row → Type 0
EndsRow c volume uprn None old new = new ≡ old
EndsRow c volume uprn (Some born) old new =
    Closes c custody_kind (id_of (key.Blpu uprn)) born volume old new

-- what became of a custodian's number is born in this volume, and current
pub record AddsPassage (c volume uprn : ℕ) (custody : Custody) (old new : List Row)
    : Type 0 where
  pub custodian : IsCode c
  pub number : is_uprn uprn ≡ true
  pub such : is_custody custody ≡ true
  pub row : AddsRow (passage_values c volume never uprn custody) old new

-- the rows once a number that was passed on is written
pub record WritesPassage (c volume uprn : ℕ) (p : Passage) (old new : List Row) : Type 0 where
  pub between : List Row
  pub ends : EndsRow c volume uprn p.closes old between
  pub adds : AddsPassage c volume uprn p.custody between new

abbrev pub WritesNumber : ℕ → ℕ → ℕ → Option Passage → List Row → List Row → Type 0
WritesNumber c volume uprn None old new = new ≡ old
WritesNumber c volume uprn (Some p) old new = WritesPassage c volume uprn p old new

-- the rows once these numbers are written in turn
abbrev pub WritesNumbers : ℕ → ℕ → Changes → List ℕ → List Row → List Row → Type 0
WritesNumbers c volume changes [] old new = new ≡ old
WritesNumbers c volume changes (n ∷ numbers) old new = (between : List Row)
    × WritesNumber c volume n (passage_at changes n) old between
    × WritesNumbers c volume changes numbers between new

-- the rows once each touched key is written, and then each number that was passed on
abbrev pub WritesAll : ℕ → ℕ → Changes → List Row → List Row → Type 0
WritesAll c volume changes old new = (between : List Row)
    × WritesKeys c volume changes (finite.keys changes.touched) old between
    × WritesNumbers c volume changes (finite.keys changes.passed) between new

-- each of them is written, and the volume is marked applied
pub record KeepsVolume (c volume : ℕ) (changes : Changes) (old new : Database) : Type 0 where
  pub between : Database
  pub rows : ChangesTable version2 (WritesAll c volume changes) old between
  pub mark : ChangesTable received (Applies c volume) between new

-- ---- what it comes to

-- the current passages of numbers are those that were told when they were passed on
abbrev pub AreToldPassages : Changes → List Row → ℕ → Type 0
AreToldPassages changes rows c = (uprn volume : ℕ)
    → finite.get changes.passed uprn ≡ Some (Some volume)
    → HasPassage (passages_in rows c) uprn volume

-- a store's tables, and beside them changes that make a working view of a custodian's last, which
-- is to be that of its next volume
pub record IsToKeep (db : Database) (c volume : ℕ) (changes : Changes)
    (working : View) : Type 0 where
  pub kept : IsKept db
  pub next : volume ≡ next_in db c
  pub at_hand : IsAtHand (content_in db empty_view) c
  pub made : Make (last_in db c) changes working
  pub told : AreTold changes (histories_in (rows_of db version2) c)
  pub passed : AreToldPassages changes (rows_of db version2) c

-- the board has one more judgement of the custodian: applied, with this view
abbrev pub Applied : ℕ → View → Database → Database → Type 0
Applied c working old new =
    let judgement : Judgement = record { verdict = verdict.Applied; view = working } in
    Stands new empty_view (with_judgement (content_in old empty_view) c judgement)

-- what is written makes just that of what the tables stand for
abbrev pub KeepStands : Type 0
KeepStands = (c volume : ℕ) (changes : Changes) (working : View) (old new : Database)
    → IsToKeep old c volume changes working → KeepsVolume c volume changes old new
    → Applied c working old new

-- ---- a call on a connection, whose state `g` shows

module _ {S : Type 0} (g : Ghosts S) (before after : Held S) where
  abbrev old : State
  old = state g before

  abbrev new : State
  new = state g after

  -- within a transaction, the rows of `version2` become others
  abbrev pub WritesVersions : {A : Type 0} → Result A Error → (List Row → List Row → Type 0)
      → Type 0
  WritesVersions result Becomes = HasCleanDisk new → HasTables old.now
      → OnOk result (ChangesTable version2 Becomes old.now new.now)

  -- within a transaction, a volume is written and marked applied
  abbrev pub WritesVolume : {A : Type 0} → Result A Error → ℕ → ℕ → Changes → Type 0
  WritesVolume result c volume changes = HasCleanDisk new → HasTables old.now
      → OnOk result (KeepsVolume c volume changes old.now new.now)

  -- in a transaction of its own, a volume is written, marked applied and committed
  abbrev pub Keeps : {A : Type 0} → Result A Error → ℕ → ℕ → Changes → Type 0
  Keeps result c volume changes = HasCleanDisk new → HasTables old.now
      → OnOk result (KeepsVolume c volume changes old.now new.now × (new.committed ≡ new.now))

  -- a stop leaves what it could before, or the volume written
  abbrev pub MayKeep : ℕ → ℕ → Changes → Type 0
  MayKeep c volume changes = (HasCleanDisk old → HasTables old.now)
      → Survives old new (table.AreTreesOf (KeepsVolume c volume changes old.now))
