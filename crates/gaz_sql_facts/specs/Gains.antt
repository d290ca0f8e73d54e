-- What it is for a database to gain a table or an index beside the tables that it has.
use Rattle.std.specs.Prelude.{◌≡◌, []}
use Rattle.sqlite_catalog.specs.Change.{created, indexed, next_tree}
use Rattle.sqlite_rules.specs.Lists.{Has}
use Rattle.sqlite_schema.specs.declared.schema.Index.{Index}
use Rattle.sqlite_schema.specs.declared.schema.Table.{Table}
use Rattle.sqlite.specs.Effect.{Database, IsDatabase}

-- the schema gains the table, which has no row yet; each table that was there has the rows it had
pub record GainsTable (table : Table) (old new : Database) : Type 0 where
  pub schema_is : new.schema ≡ created old.schema table
  pub sound : IsDatabase new
  pub empty : new.trees (next_tree old.schema) ≡ []
  pub others : (t : Table) → Has old.schema.tables t → new.trees t.tree ≡ old.trees t.tree

-- the schema gains the index of the table, and each table has the rows it had
pub record GainsIndex (table : Table) (index : Index) (old new : Database) : Type 0 where
  pub schema_is : new.schema ≡ indexed old.schema table index
  pub sound : IsDatabase new
  pub others : (t : Table) → Has old.schema.tables t → new.trees t.tree ≡ old.trees t.tree
