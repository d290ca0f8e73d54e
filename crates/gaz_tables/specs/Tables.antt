-- Where the tables of a store stand in a schema, whatever else the schema has, and their rows.
use Rattle.std.specs.Prelude.{◌≡◌, ℕ, List, option_and_then, option_map}
use Rattle.std.specs.Prelude.{slice_get, unwrap_or}
use Rattle.sqlite_rules.specs.Lists.{Has}
use Rattle.sqlite_schema.specs.declared.schema.Schema.{Schema}
use Rattle.sqlite_schema.specs.declared.schema.Table.{Table}
use Rattle.sqlite_schema.specs.Names.{table_named}
use Rattle.sqlite.specs.Effect.{Database}
use Rattle.sqlite.specs.Order.{Row}
use Rattle.gaz_sql_facts.specs.Standing.{IsApart, StandsAt}
use Rattle.gaz_tables.specs.Schema.{meta, received, version, version2}

-- the tree of the table of a name, or 0 where no table has it
unfoldable pub tree_named : Schema → List ℕ → ℕ
tree_named schema name = unwrap_or
    (option_and_then (λ at. option_map (λ t. t.tree) (slice_get schema.tables at))
    (table_named schema name)) 0

-- the tree of the table of this one's name
abbrev pub tree_of : Table → Schema → ℕ
tree_of table schema = tree_named schema table.name

-- the rows of the table of this one's name
abbrev pub rows_of : Database → Table → List Row
rows_of db table = db.trees (tree_of table db.schema)

-- the tables have the same name, columns and keys: they may differ in tree, checks and foreign keys
pub record IsLike (like table : Table) : Type 0 where
  pub name : table.name ≡ like.name
  pub columns : table.columns ≡ like.columns
  pub key : table.key ≡ like.key
  pub uniques : table.uniques ≡ like.uniques
  pub orders : table.orders ≡ like.orders
  pub computed : table.computed ≡ like.computed
  pub stamps : table.stamps ≡ like.stamps
  pub is_counted : table.is_counted ≡ like.is_counted

-- a table of this name, with these columns and keys, stands in the schema, whatever else is said of
-- it, and no foreign key leads to it
pub record HasTable (like : Table) (schema : Schema) : Type 0 where
  pub table : Table
  pub place : ℕ
  pub stands : StandsAt schema place table
  pub is_like : IsLike like table
  pub apart : IsApart schema table.tree

-- the three tables of schema 1 stand in the schema, whatever else it has
pub record AreFirstThere (schema : Schema) : Type 0 where
  pub versions : HasTable version schema
  pub receiveds : HasTable received schema
  pub metas : HasTable meta schema

-- a table of this one's name, with its columns, is in the schema, whatever else is said of it
pub record IsListed (like : Table) (schema : Schema) : Type 0 where
  pub table : Table
  pub there : Has schema.tables table
  pub name : table.name ≡ like.name
  pub columns : table.columns ≡ like.columns

-- the three tables of a store stand in the schema, and `version` of schema 1 is still in it,
-- whatever else it has
pub record AreThere (schema : Schema) : Type 0 where
  pub firsts : IsListed version schema
  pub versions : HasTable version2 schema
  pub receiveds : HasTable received schema
  pub metas : HasTable meta schema
