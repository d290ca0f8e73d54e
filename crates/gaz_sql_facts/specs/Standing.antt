-- Where a table stands in a schema, whatever else the schema has.
use Rattle.std.specs.Prelude.{◌≡◌, ℕ, ◌^◌, ◌==◌, nat_le, Bool, false, [], ◌∷◌, Some}
use Rattle.std.specs.Prelude.{find, slice_get, unwrap_or, option_map}
use Rattle.std.specs.List.{AllByRecursion, list_any}
use Rattle.sqlite_schema.specs.declared.schema.Reference.{Reference}
use Rattle.sqlite_schema.specs.declared.schema.Schema.{Schema}
use Rattle.sqlite_schema.specs.declared.schema.Table.{Table}
use Rattle.sqlite_schema.specs.Names.{table_named}
use Rattle.sqlite_schema.specs.Rules.{parent_key}

-- the table stands at the place: it is the first of its name and the first at its tree, and no
-- statement computes it
pub record StandsAt (schema : Schema) (at : ℕ) (table : Table) : Type 0 where
  pub named : table_named schema table.name ≡ Some at
  pub listed : slice_get schema.tables at ≡ Some table
  pub by_tree : find (λ t. t.tree == table.tree) schema.tables ≡ Some table
  pub stored : nat_le (2 ^ 31) table.tree ≡ false

-- whether a foreign key leads to the table at a tree
abbrev pub leads_to : Schema → ℕ → Reference → Bool
leads_to schema tree ref =
    unwrap_or (option_map (λ key. key.0 == tree) (parent_key schema.tables ref)) false

-- no foreign key leads to the table at a tree
abbrev pub IsApart : Schema → ℕ → Type 0
IsApart schema tree =
    AllByRecursion (λ t. list_any (leads_to schema tree) t.references ≡ false) schema.tables

-- the schema of this table and nothing else
abbrev pub alone : Table → Schema
alone table = record { tables = table ∷ []; indexes = []; views = [] }

-- the schema of these two tables and nothing else
abbrev pub together : Table → Table → Schema
together one other = record { tables = one ∷ other ∷ []; indexes = []; views = [] }

-- texts read alike over both: they may differ in tree, keys, checks and foreign keys
pub record ReadsAs (like table : Table) : Type 0 where
  pub name : table.name ≡ like.name
  pub columns : table.columns ≡ like.columns
  pub key : table.key ≡ like.key
  pub computed : table.computed ≡ like.computed
  pub stamps : table.stamps ≡ like.stamps
