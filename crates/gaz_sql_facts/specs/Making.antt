-- Texts that make a table or an index, and what they ask of a schema.
use Rattle.std.specs.Prelude.{◌≡◌, ℕ, false, List, Option, None, Some, Ok, Err}
use Rattle.std.specs.List.{AllByRecursion, list_any}
use Rattle.sqlite_ast.specs.declared.Statement.{Statement}
use Rattle.sqlite_ast.specs.declared.Statement.TheVariants as written
use Rattle.sqlite_schema.specs.declared.command.Command.TheVariants.{CreateIndex}
use Rattle.sqlite_schema.specs.declared.schema.Schema.{Schema}
use Rattle.sqlite_schema.specs.declared.schema.Table.{Table}
use Rattle.sqlite_schema.specs.Names.{index_named, same_name, table_named, view_named}
use Rattle.sqlite_syntax.specs.declared.statement.Parsed.{Parsed}
use Rattle.sqlite_resolve.specs.declared.compiled.Compiled.{Compiled}
use Rattle.sqlite_resolve.specs.Compile.{compiled, first}
use Rattle.sqlite_resolve.specs.Lowering.{Checked}
use Rattle.sqlite_resolve.specs.Scope.{Name}
use Rattle.gaz_sql_facts.specs.Standing.{ReadsAs, StandsAt, alone}

-- no table, no index and no view of the schema has this name
pub record IsFree (schema : Schema) (name : List ℕ) : Type 0 where
  pub no_table : table_named schema name ≡ None
  pub no_index : index_named schema name ≡ None
  pub no_view : view_named schema name ≡ None

-- no foreign key has the table of this name as its parent
abbrev pub IsUnreferred : Schema → List ℕ → Type 0
IsUnreferred schema name = AllByRecursion
    (λ t. list_any (λ ref. same_name name ref.parent) t.references ≡ false) schema.tables

-- the name of the table that a statement makes
abbrev pub table_of : Statement → Option Name
table_of (written.CreateTable def) = Some def.name
table_of _ = None

-- the name of the index that a statement makes, and that of its table
abbrev pub index_of : Statement → Option (Name × Name)
index_of (written.CreateIndex def) = Some (def.name, def.table)
index_of _ = None

abbrev pub told_of : {A : Type 0} → (Statement → Option A) → Checked Parsed → Option A
told_of tells (Ok p) = tells p.statement
told_of tells (Err e) = None

-- the name of the table that a text makes, if it is one such statement
abbrev pub table_made : List ℕ → Option Name
table_made text = told_of table_of (first text)

abbrev pub index_made : List ℕ → Option (Name × Name)
index_made text = told_of index_of (first text)

-- whatever tables, indexes and views two schemas have, the text is read alike over both, if the
-- name is free in both
abbrev pub ReadsAlike : List ℕ → Name → Type 0
ReadsAlike text name = (one other : Schema) → IsFree one name → IsFree other name
    → compiled one text ≡ compiled other text

-- wherever a table stands over which texts read as over this one, the text makes an index of it,
-- if the name is free
abbrev pub MakesIndexAnywhere : Table → List ℕ → Name → Compiled → Type 0
MakesIndexAnywhere like text name read = (schema : Schema) (at : ℕ) (table : Table)
    → ReadsAs like table → StandsAt schema at table → IsFree schema name
    → compiled schema text ≡ Ok (record read { command = CreateIndex at })

-- a text that makes a table asks a schema for that table's name and nothing else
abbrev pub TablesMadeAnywhere : Type 0
TablesMadeAnywhere = (text : List ℕ) (name : Name) → table_made text ≡ Some name
    → ReadsAlike text name

-- a text that makes an index of a table where that stands alone makes one wherever it stands
abbrev pub IndexesMadeAnywhere : Type 0
IndexesMadeAnywhere = (like : Table) (text : List ℕ) (name : Name) (read : Compiled)
    → index_made text ≡ Some (name, like.name) → IsFree (alone like) name
    → compiled (alone like) text ≡ Ok read → read.command ≡ CreateIndex 0
    → MakesIndexAnywhere like text name read
