-- What a text means, and what it means of a table, or of two, wherever these stand.
use Rattle.std.specs.Prelude.{◌≡◌, ℕ, List, [], None, Ok}
use Rattle.sqlite_value.specs.declared.keys.Collation.{Collation}
use Rattle.sqlite_value.specs.declared.keys.Key.{Key}
use Rattle.sqlite_sql.specs.Query.{Query}
use Rattle.sqlite_sql.specs.Term.{Term}
use Rattle.sqlite_schema.specs.declared.command.Command.{Command}
use Rattle.sqlite_schema.specs.declared.command.Command.TheVariants as command
use Rattle.sqlite_schema.specs.declared.command.Source.TheVariants.{Values, Query as Asked}
use Rattle.sqlite_schema.specs.declared.program.Program.{Program}
use Rattle.sqlite_schema.specs.declared.schema.Schema.{Schema}
use Rattle.sqlite_schema.specs.declared.schema.Table.{Table}
use Rattle.sqlite_resolve.specs.declared.compiled.Compiled.{Compiled}
use Rattle.sqlite_resolve.specs.Compile.{compiled}
use Rattle.sqlite_resolve.specs.Scope.{Name}
use Rattle.gaz_sql_facts.specs.Copies.{copying}
use Rattle.gaz_sql_facts.specs.Selects.{selecting, every}
use Rattle.gaz_sql_facts.specs.Standing.{ReadsAs, StandsAt}

-- the text is this one command, which asks for no time and gives back no rows of what it writes
pub record Means (schema : Schema) (text : List ℕ) (command : Command) : Type 0 where
  pub read : Compiled
  pub is : compiled schema text ≡ Ok read
  pub command_is : read.command ≡ command
  pub no_rows : read.returning ≡ None
  pub no_time : read.formats ≡ []

-- the program of this query alone
abbrev pub asking : Query → Program
asking query = record { lets = []; body = query }

-- a command on one table, before it is said where that stands
pub data OnTable : Type 0 where
  -- SELECT project .. WHERE tests ORDER BY order LIMIT limit, under these names
  Selects : (tests project : List Term) (order : List (Term × Key)) (limit : Term)
      (names : List Name) → OnTable
  -- INSERT .. VALUES (terms), so many to a row
  Inserts : (terms : List Term) (width : ℕ) → OnTable
  -- UPDATE .. SET .. WHERE tests, where a row that passes becomes `project`
  Updates : (tests project : List Term) → OnTable
  -- DELETE .. WHERE tests
  Deletes : (tests project : List Term) → OnTable

-- the command on the table at a place and a tree
abbrev pub placed : ℕ → ℕ → OnTable → Command
placed at tree (OnTable.Selects tests project order limit names) =
    command.Select (asking (selecting tree tests project order limit)) names
placed at tree (OnTable.Inserts terms width) = command.Insert at (Values terms width)
placed at tree (OnTable.Updates tests project) =
    command.Update at (asking (selecting tree tests project [] every))
placed at tree (OnTable.Deletes tests project) =
    command.Delete at (asking (selecting tree tests project [] every))

-- wherever a table stands over which texts read as over this one, the text is the command on it
abbrev pub MeansAnywhere : Table → List ℕ → OnTable → Type 0
MeansAnywhere like text it = (schema : Schema) (at : ℕ) (table : Table) → ReadsAs like table
    → StandsAt schema at table → Means schema text (placed at table.tree it)

-- INSERT INTO the table at a place SELECT project FROM the table at a tree; each value that is
-- selected has its collation
abbrev pub copied : ℕ → ℕ → List Term → List Collation → Command
copied at tree project collations =
    command.Insert at (Asked (asking (copying tree project collations)))

-- wherever two tables stand over which texts read as over these, the text copies the one into the
-- other
abbrev pub CopiesAnywhere : Table → Table → List ℕ → List Term → List Collation → Type 0
CopiesAnywhere source target text project collations =
    (schema : Schema) (place at : ℕ) (from into : Table)
    → ReadsAs source from → StandsAt schema place from
    → ReadsAs target into → StandsAt schema at into
    → Means schema text (copied at from.tree project collations)
