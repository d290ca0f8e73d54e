-- How a database of schema 1 becomes one of schema 2, with the same rows, whatever else is in it.
use Rattle.std.specs.Prelude.{◌≡◌, ◌≢◌, ℕ, pos, List, [], ◌∷◌, Result, OnOk}
use Rattle.sqlite.specs.declared.error.Error.{Error}
use Rattle.sqlite.specs.declared.types.Value.TheVariants.{Int}
use Rattle.sqlite.specs.Effect.{Database, IsDatabase}
use Rattle.sqlite.specs.Held.{Held, state}
use Rattle.sqlite.specs.Order.{Row, column}
use Rattle.sqlite.specs.State.{State, HasCleanDisk, Survives}
use Rattle.sqlite.specs.View.{IsShaped}
use Rattle.sqlite_rules.specs.Lists.{Has}
use Rattle.sqlite_schema.specs.declared.schema.Table.{Table}
use Rattle.sqlite_trees.specs.declared.store.Shape.TheVariants as shape
use Rattle.sqlite_trees.specs.declared.store.Store.{Ghosts}
use Rattle.gaz_sql_facts.specs.Changes.{AreTreesOf, InPlace}
use Rattle.gaz_sql_facts.specs.Copies.{AreCopied}
use Rattle.gaz_tables.specs.Creating.{HasRoomForSecond, second_in}
use Rattle.gaz_tables.specs.Metas.{Rewrites}
use Rattle.gaz_tables.specs.Schema.{meta, received, version, version2}
use Rattle.gaz_tables.specs.Stores.{ChangesTable, HasTables}
use Rattle.gaz_tables.specs.Tables.{AreFirstThere, HasTable, rows_of, tree_of}

-- the database has the three tables of schema 1, and room for what schema 2 has beside them,
-- whatever else it has
pub record HasFirstTables (db : Database) : Type 0 where
  pub there : AreFirstThere db.schema
  pub room : HasRoomForSecond db.schema
  pub sound : IsDatabase db
  pub versions_shaped : IsShaped shape.Table (rows_of db version)
  pub receiveds_shaped : IsShaped shape.Table (rows_of db received)
  pub metas_shaped : IsShaped shape.Table (rows_of db meta)

-- the database has a store's three tables and `version`, whatever else it has
pub record HasFourTables (db : Database) : Type 0 where
  pub tables : HasTables db
  pub old_there : HasTable version db.schema
  pub old_shaped : IsShaped shape.Table (rows_of db version)

-- the values of a row of `version`, and hop 0 behind them
abbrev pub with_hop : Row → Row
with_hop r = column r 1 ∷ column r 2 ∷ column r 3 ∷ column r 4 ∷ column r 5 ∷ column r 6
    ∷ column r 7 ∷ column r 8 ∷ column r 9 ∷ column r 10 ∷ Int (pos 0) ∷ []

-- `version2` gets each row of `version` once, and keeps what it had
abbrev pub CopiesRows : Database → List Row → List Row → Type 0
CopiesRows db old new = AreCopied with_hop (rows_of db version) old new

-- the rows of `version` stand in `version2`, where none stood, and nothing else changes
pub record MovesRows (old new : Database) : Type 0 where
  pub schema_stays : new.schema ≡ old.schema
  pub tables : HasFourTables new
  pub rows : CopiesRows old [] (rows_of new version2)
  pub emptied : rows_of new version ≡ []
  pub files : rows_of new received ≡ rows_of old received
  pub meta : rows_of new meta ≡ rows_of old meta
  pub others : (t : Table) → Has old.schema.tables t → t.tree ≢ tree_of version old.schema
      → t.tree ≢ tree_of version2 old.schema → new.trees t.tree ≡ old.trees t.tree

-- each table that was there, but those of `version` and of `meta`, is there still, with the rows it
-- had
abbrev pub KeepsOthers : Database → Database → Type 0
KeepsOthers old new = (t : Table) → Has old.schema.tables t
    → t.tree ≢ tree_of version old.schema → t.tree ≢ tree_of meta old.schema
    → Has new.schema.tables t × (new.trees t.tree ≡ old.trees t.tree)

-- a database of schema 1 becomes one of schema 2 with the same rows and files, whose row of `meta`
-- has this number and register, beside whatever is there
pub record Migrates (number : ℕ) (register : List ℕ) (old new : Database) : Type 0 where
  pub schema_is : new.schema ≡ second_in old.schema
  pub tables : HasTables new
  pub rows : CopiesRows old [] (rows_of new version2)
  pub emptied : rows_of new version ≡ []
  pub files : rows_of new received ≡ rows_of old received
  pub meta : Rewrites number register (rows_of old meta) (rows_of new meta)
  pub others : KeepsOthers old new

-- a call on a connection, whose state `g` shows
module _ {S : Type 0} (g : Ghosts S) (before after : Held S) where
  abbrev old : State
  old = state g before

  abbrev new : State
  new = state g after

  -- within a transaction, where the four tables are there, the rows of one become others
  abbrev pub WritesFour : Table → Result ℕ Error → (List Row → List Row → Type 0) → Type 0
  WritesFour table result Becomes = HasCleanDisk new → HasFourTables old.now
      → OnOk result (ChangesTable table Becomes old.now new.now × InPlace old new)

  -- within a transaction, the rows of `version` are moved
  abbrev pub MovesInside : {A : Type 0} → Result A Error → Type 0
  MovesInside result = HasCleanDisk new → HasFourTables old.now → rows_of old.now version2 ≡ []
      → OnOk result (MovesRows old.now new.now)

  -- within a transaction, the database of schema 1 becomes one of schema 2
  abbrev pub MigratesInside : {A : Type 0} → ℕ → List ℕ → Result A Error → Type 0
  MigratesInside number register result = HasCleanDisk new → HasFirstTables old.now
      → OnOk result (Migrates number register old.now new.now)

  -- in a transaction of its own it does, and that is committed
  abbrev pub MigratesAlone : {A : Type 0} → ℕ → List ℕ → Result A Error → Type 0
  MigratesAlone number register result = HasCleanDisk new → HasFirstTables old.now
      → OnOk result (Migrates number register old.now new.now × (new.committed ≡ new.now))

  -- a stop leaves what it could before, or the database of schema 2
  abbrev pub MayMigrate : ℕ → List ℕ → Type 0
  MayMigrate number register = (HasCleanDisk old → HasFirstTables old.now)
      → Survives old new (AreTreesOf (Migrates number register old.now))
