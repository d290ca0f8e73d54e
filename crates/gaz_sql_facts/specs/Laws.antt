-- What texts over one table hang on, and texts that copy one into another.
use Rattle.std.specs.Prelude.{◌≡◌, ℕ, true, List}
use Rattle.sqlite_value.specs.declared.keys.Collation.{Collation}
use Rattle.sqlite_schema.specs.declared.schema.Table.{Table}
use Rattle.sqlite_sql.specs.Term.{Term}
use Rattle.gaz_sql_facts.specs.Meaning.{CopiesAnywhere, Means, MeansAnywhere, OnTable}
use Rattle.gaz_sql_facts.specs.Meaning.{copied, placed}
use Rattle.gaz_sql_facts.specs.Simple.{is_simple_copy, is_simple_text}
use Rattle.gaz_sql_facts.specs.Standing.{StandsAt, alone, together}

-- a simple text means the same command of a table in any schema in which it stands as where that
-- table is alone, whatever its tree, keys, checks and foreign keys
abbrev pub TextsStandAlone : Type 0
TextsStandAlone = (table : Table) (text : List ℕ) (it : OnTable) → StandsAt (alone table) 0 table
    → is_simple_text table text ≡ true → Means (alone table) text (placed 0 table.tree it)
    → MeansAnywhere table text it

-- a simple text that copies one table into another means the same command in any schema in which
-- both stand as where they are alone, whatever their trees, keys, checks and foreign keys
abbrev pub CopiesStandAlone : Type 0
CopiesStandAlone = (source target : Table) (text : List ℕ) (project : List Term)
    (collations : List Collation)
    → StandsAt (together source target) 0 source → StandsAt (together source target) 1 target
    → is_simple_copy source target text ≡ true
    → Means (together source target) text (copied 1 source.tree project collations)
    → CopiesAnywhere source target text project collations
