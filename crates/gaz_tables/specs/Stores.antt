-- A store of three tables, whatever else is in its database, and what a statement makes of it.
use Rattle.std.specs.Prelude.{◌≡◌, ◌≢◌, ℕ, List, [], ◌∷◌, Result, Vec, IfErr, IfOk, OnOk, OnErr}
use Rattle.std.specs.Prelude.{IsTrue}
use Rattle.std.specs.declared.alloc.Global.{Global}
use Rattle.sqlite.specs.Order.{Row}
use Rattle.sqlite.specs.declared.types.Value.TheVariants.{Int}
use Rattle.sqlite.specs.Edit.{next_rowid}
use Rattle.sqlite.specs.declared.error.Error.{Error}
use Rattle.sqlite.specs.Effect.{Database, IsDatabase}
use Rattle.sqlite.specs.Held.{Held, state}
use Rattle.sqlite.specs.State.{State, HasCleanDisk, IsUnchanged, KeepsCommit, Shown, Survives}
use Rattle.sqlite.specs.View.{IsShaped}
use Rattle.sqlite_rules.specs.Lists.{Has}
use Rattle.sqlite_schema.specs.declared.schema.Table.{Table}
use Rattle.sqlite_trees.specs.declared.store.Store.{Ghosts}
use Rattle.sqlite_trees.specs.declared.store.Shape.TheVariants as shape
use Rattle.gaz_sql_facts.specs.Changes.{AreTreesOf, InPlace, IsAdded, IsSpared, IsUndone}
use Rattle.gaz_sql_facts.specs.Reasons.{HasReason}
use Rattle.gaz_tables.specs.Schema.{meta, received, version2}
use Rattle.gaz_tables.specs.Tables.{AreThere, rows_of, tree_of}

-- the database has a store's three tables, whatever else it has
pub record HasTables (db : Database) : Type 0 where
  pub there : AreThere db.schema
  pub sound : IsDatabase db
  pub versions_shaped : IsShaped shape.Table (rows_of db version2)
  pub receiveds_shaped : IsShaped shape.Table (rows_of db received)
  pub metas_shaped : IsShaped shape.Table (rows_of db meta)

-- the table of this one's name becomes other rows, no rowid comes twice in it if none did, and no
-- other table of the database changes
pub record ChangesTable (table : Table) (Becomes : List Row → List Row → Type 0)
    (old new : Database) : Type 0 where
  pub schema_stays : new.schema ≡ old.schema
  pub sound : IsDatabase new
  pub rows : Becomes (rows_of old table) (rows_of new table)
  pub shaped : IsShaped shape.Table (rows_of old table) → IsShaped shape.Table (rows_of new table)
  pub others : (t : Table) → Has old.schema.tables t → t.tree ≢ tree_of table old.schema
      → new.trees t.tree ≡ old.trees t.tree

-- the rows and one more, of these values, under a new rowid
abbrev pub AddsRow : Row → List Row → List Row → Type 0
AddsRow values old new = IsAdded (Int (next_rowid old) ∷ values) old new

-- a call within a transaction, whatever tables there are; `g` shows the state of its connection
pub record StaysInside {S A : Type 0} (g : Ghosts S) (before after : Held S)
    (result : Result A Error) : Type 0 where
  -- one that is done leaves the transaction open
  pub goes_on : HasCleanDisk (state g after)
      → OnOk result (after.in_transaction ≡ before.in_transaction)
  -- whatever came, nothing is committed
  pub kept : HasCleanDisk (state g after) → KeepsCommit (state g before) (state g after)
  -- so a stop may leave what it could before and nothing else
  pub leaves : Survives (state g before) (state g after) (λ _. ⊥)

-- a call on a connection, whose state `g` shows
module _ {S : Type 0} (g : Ghosts S) (before after : Held S) where
  abbrev old : State
  old = state g before

  abbrev new : State
  new = state g after

  -- ---- whatever tables there are

  -- an Ok tells that the connection was open and is
  abbrev pub WasOpen : {A : Type 0} → Result A Error → Type 0
  WasOpen result = HasCleanDisk new → OnOk result (IsTrue old.is_open × IsTrue new.is_open)

  -- a query that fails changes nothing, or ends the transaction
  abbrev pub Spares : Result (Vec Row Global) Error → Type 0
  Spares result = HasCleanDisk new → OnErr result (IsSpared old new)

  -- ---- a query

  -- the answer is of the rows that the table had
  abbrev pub Finds : Table → Result (Vec Row Global) Error → (List Row → List Row → Type 0) → Type 0
  Finds table result IsAnswer = HasCleanDisk new → HasTables old.now
      → IfOk result (λ rows. IsAnswer (rows_of old.now table) rows.items)

  -- a query that answers changes nothing
  abbrev pub Stays : Result (Vec Row Global) Error → Type 0
  Stays result = HasCleanDisk new → HasTables old.now → OnOk result (IsUnchanged old new)

  -- what fails does so for want of memory, or for the disk, or because the connection was shut or
  -- its steps are limited
  abbrev pub FailsByOthers : {A : Type 0} → Result A Error → Type 0
  FailsByOthers result = HasCleanDisk new → HasTables old.now → IfErr result (HasReason old new)

  -- a stop may leave what it could before and nothing else
  abbrev pub LeavesAsBefore : Type 0
  LeavesAsBefore = (HasCleanDisk old → HasTables old.now) → Survives old new (λ _. ⊥)

  -- ---- within a transaction

  -- an answer is what SQL makes of the text, whatever tables there are
  abbrev pub Answers : List ℕ → Result (Vec Row Global) Error → Type 0
  Answers sql result = HasCleanDisk new → IfOk result (λ rows. Shown sql [] old new rows.items)

  -- nothing is committed, whatever tables there are
  abbrev pub KeepsInside : Type 0
  KeepsInside = HasCleanDisk new → IsTrue old.in_transaction → KeepsCommit old new

  -- a fault changes nothing or ends the transaction
  abbrev pub SparesInside : Result ℕ Error → Type 0
  SparesInside result =
      HasCleanDisk new → IsTrue old.in_transaction → OnErr result (IsSpared old new)

  -- the table's rows become others
  abbrev pub WritesInside : Table → Result ℕ Error → (List Row → List Row → Type 0) → Type 0
  WritesInside table result Becomes = HasCleanDisk new → HasTables old.now
      → OnOk result (ChangesTable table Becomes old.now new.now × InPlace old new)

  -- ---- in a transaction of its own

  -- the table's rows become others and are committed
  abbrev pub Commits : {A : Type 0} → Table → Result A Error → (List Row → List Row → Type 0)
      → Type 0
  Commits table result Becomes = HasCleanDisk new → HasTables old.now
      → OnOk result (ChangesTable table Becomes old.now new.now × (new.committed ≡ new.now))

  -- a fault commits nothing, whatever tables there are
  abbrev pub Undoes : {A : Type 0} → Result A Error → Type 0
  Undoes result = HasCleanDisk new → OnErr result (IsUndone old new)

  -- a stop may leave what it could before, or the table with other rows
  abbrev pub MayLeave : Table → (List Row → List Row → Type 0) → Type 0
  MayLeave table Becomes = (HasCleanDisk old → HasTables old.now)
      → Survives old new (AreTreesOf (ChangesTable table Becomes old.now))

-- a query of a table tells this of its rows, and changes nothing
pub record Queries {S : Type 0} (g : Ghosts S) (before after : Held S) (table : Table)
    (result : Result (Vec Row Global) Error) (IsAnswer : List Row → List Row → Type 0)
    : Type 0 where
  pub found : Finds g before after table result IsAnswer
  pub stays : Stays g before after result
  pub was_open : WasOpen g before after result
  pub spared : Spares g before after result
  pub reason : FailsByOthers g before after result
  pub leaves : LeavesAsBefore g before after
