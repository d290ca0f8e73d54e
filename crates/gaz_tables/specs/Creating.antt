-- How the tables and indexes of a new store are made, one by one, beside whatever is there.
use Rattle.std.specs.Prelude.{◌≡◌, ◌≢◌, ◌⊎◌, ℕ, false, List, [], ◌∷◌, ◌++◌, codes, Result, OnOk}
use Rattle.std.specs.List.{AllByRecursion}
use Rattle.sqlite.specs.declared.error.Error.{Error}
use Rattle.sqlite.specs.Does.{lacks_sequence}
use Rattle.sqlite.specs.Effect.{Database, IsDatabase}
use Rattle.sqlite.specs.Schema.{Schema}
use Rattle.sqlite.specs.Table.{Table}
use Rattle.sqlite_catalog.specs.Change.{created, indexed}
use Rattle.sqlite_rules.specs.Lists.{Has}
use Rattle.sqlite_schema.specs.declared.schema.Index.{Index}
use Rattle.sqlite.specs.Held.{Held, state}
use Rattle.sqlite.specs.State.{State, HasCleanDisk, Survives}
use Rattle.sqlite_trees.specs.declared.store.Store.{Ghosts}
use Rattle.gaz_sql_facts.specs.Changes.{AreTreesOf, IsAdded}
use Rattle.gaz_sql_facts.specs.Making.{IsFree, IsUnreferred}
use Rattle.gaz_tables.specs.Metas.{meta_row}
use Rattle.gaz_tables.specs.Schema.{version, received, meta, version2}
use Rattle.gaz_tables.specs.Schema.{by_blpu, by_street, by_blpu2, by_street2}
use Rattle.gaz_tables.specs.Stores.{HasTables}
use Rattle.gaz_tables.specs.Tables.{HasTable, rows_of, tree_of}

-- ---- what a schema has room for

-- none of the names is used, no foreign key has one of the tables as its parent, and where a table
-- counts its rowids the table of the counts is there
pub record HasRoomFor (tables indexes : List (List ℕ)) (schema : Schema) : Type 0 where
  pub free : AllByRecursion (IsFree schema) (tables ++ indexes)
  pub unreferred : AllByRecursion (IsUnreferred schema) tables
  pub counted : lacks_sequence schema ≡ false

-- for the tables and indexes of a store, whatever else is there
abbrev pub HasRoom : Schema → Type 0
HasRoom = HasRoomFor
    (codes "version" ∷ codes "received" ∷ codes "meta" ∷ codes "version2" ∷ [])
    (codes "by_blpu" ∷ codes "by_street" ∷ codes "by_blpu2" ∷ codes "by_street2" ∷ [])

-- for `version` and its indexes, for `received` and `meta`, for these three, and for `version2`
-- and its indexes
abbrev pub HasRoomForVersions : Schema → Type 0
HasRoomForVersions =
    HasRoomFor (codes "version" ∷ []) (codes "by_blpu" ∷ codes "by_street" ∷ [])

abbrev pub HasRoomForOthers : Schema → Type 0
HasRoomForOthers = HasRoomFor (codes "received" ∷ codes "meta" ∷ []) []

abbrev pub HasRoomForFirst : Schema → Type 0
HasRoomForFirst = HasRoomFor (codes "version" ∷ codes "received" ∷ codes "meta" ∷ [])
    (codes "by_blpu" ∷ codes "by_street" ∷ [])

abbrev pub HasRoomForSecond : Schema → Type 0
HasRoomForSecond =
    HasRoomFor (codes "version2" ∷ []) (codes "by_blpu2" ∷ codes "by_street2" ∷ [])

-- for one table
abbrev pub TakesTable : Table → Schema → Type 0
TakesTable table = HasRoomFor (table.name ∷ []) []

-- for an index of a table that is there
pub record TakesIndex (table : Table) (index : Index) (schema : Schema) : Type 0 where
  pub there : HasTable table schema
  pub free : IsFree schema index.name

-- ---- the schema as it grows

abbrev pub no_schema : Schema
no_schema = record { tables = []; indexes = []; views = [] }

-- the schema with this table
abbrev pub table_put : Table → Schema → Schema
table_put table schema = created schema table

-- the schema with an index of the table of this one's name
abbrev pub index_put : Table → Index → Schema → Schema
index_put table index schema =
    indexed schema (record table { tree = tree_of table schema }) index

-- with `version` and its indexes, and so on
abbrev pub versions_in : Schema → Schema
versions_in schema =
    index_put version by_street (index_put version by_blpu (table_put version schema))

abbrev pub others_in : Schema → Schema
others_in schema = table_put meta (table_put received schema)

abbrev pub first_in : Schema → Schema
first_in schema = others_in (versions_in schema)

abbrev pub second_in : Schema → Schema
second_in schema =
    index_put version2 by_street2 (index_put version2 by_blpu2 (table_put version2 schema))

-- with all tables and indexes of a store, in the order in which they are made
abbrev pub store_in : Schema → Schema
store_in schema = second_in (first_in schema)

-- ---- what a database becomes

-- each table that was there is there still, with the rows it had
abbrev pub KeepsEach : Database → Database → Type 0
KeepsEach old new = (t : Table) → Has old.schema.tables t
    → Has new.schema.tables t × (new.trees t.tree ≡ old.trees t.tree)

-- the table has no row, and stands where none stood
pub record IsFresh (old new : Database) (t : Table) : Type 0 where
  pub empty : new.trees t.tree ≡ []
  pub apart : (u : Table) → Has old.schema.tables u → u.tree ≢ t.tree

-- the database gets a schema: what was there stays, and what is new is fresh
pub record Gains (gets : Schema) (old new : Database) : Type 0 where
  pub schema_is : new.schema ≡ gets
  pub sound : IsDatabase new
  pub stay : KeepsEach old new
  pub fresh : (t : Table) → Has new.schema.tables t → Has old.schema.tables t ⊎ IsFresh old new t

-- a new store: the tables of a store beside those that were there, and the row of `meta` alone
pub record IsNewStore (number : ℕ) (register : List ℕ) (old new : Database) : Type 0 where
  pub schema_is : new.schema ≡ store_in old.schema
  pub tables : HasTables new
  pub no_old_versions : rows_of new version ≡ []
  pub no_versions : rows_of new version2 ≡ []
  pub no_receiveds : rows_of new received ≡ []
  pub meta_alone : IsAdded (meta_row number register) [] (rows_of new meta)
  pub others : KeepsEach old new

-- a call on a connection, whose state `g` shows
module _ {S : Type 0} (g : Ghosts S) (before after : Held S) where
  abbrev old : State
  old = state g before

  abbrev new : State
  new = state g after

  -- within a transaction, a database whose schema fits gets the next one, and its rows stay
  abbrev pub Widens : {A : Type 0} → (Schema → Type 0) → (Schema → Schema) → Result A Error
      → Type 0
  Widens Fits gets result = HasCleanDisk new → Fits old.now.schema
      → OnOk result (Gains (gets old.now.schema) old.now new.now)

  -- within a transaction, a database that has room for a store becomes a new one
  abbrev pub Furnishes : {A : Type 0} → ℕ → List ℕ → Result A Error → Type 0
  Furnishes number register result = HasCleanDisk new → HasRoom old.now.schema
      → OnOk result (IsNewStore number register old.now new.now)

  -- in a transaction of its own, it becomes a new store, and that is committed
  abbrev pub Creates : {A : Type 0} → ℕ → List ℕ → Result A Error → Type 0
  Creates number register result = HasCleanDisk new → HasRoom old.now.schema
      → OnOk result (IsNewStore number register old.now new.now × (new.committed ≡ new.now))

  -- a stop leaves what it could before, or the new store
  abbrev pub MayCreate : ℕ → List ℕ → Type 0
  MayCreate number register = (HasCleanDisk old → HasRoom old.now.schema)
      → Survives old new (AreTreesOf (IsNewStore number register old.now))
