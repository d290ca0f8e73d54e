-- The tables of schema 1 and what schema 2 adds to them, as their texts read.
use Rattle.std.specs.Prelude.{false, [], ◌∷◌, Some, codes, List, ℕ, Result, Ok, Err}
use Rattle.sqlite.specs.Kind.TheVariants.{Integer, Text, Blob}
use Rattle.sqlite.specs.Table.{Table}
use Rattle.sqlite.specs.Term.{Term}
use Rattle.sqlite.specs.Schema.{Schema}
use Rattle.sqlite.specs.Compile.{table_defined_by}
use Rattle.sqlite_schema.specs.declared.schema.Column.{Column}
use Rattle.sqlite_schema.specs.declared.schema.Index.{Index}
use Rattle.sqlite_resolve.specs.declared.error.CompileError.{CompileError}
use Rattle.sqlite_catalog.specs.Listing.{automatic}
use Rattle.gaz_sql_facts.specs.Tables.{keyed, required, strict}

abbrev pub version_text : List ℕ
version_text = codes "CREATE TABLE version (cust INTEGER NOT NULL, kind INTEGER NOT NULL CHECK (kind IN (11, 15, 21, 23, 24)), id TEXT NOT NULL, blpu INTEGER NOT NULL, street INTEGER NOT NULL, lang INTEGER NOT NULL, live INTEGER NOT NULL, born INTEGER NOT NULL, gone INTEGER NOT NULL, body TEXT NOT NULL, PRIMARY KEY (cust, kind, id, born)) STRICT"

abbrev pub received_text : List ℕ
received_text = codes "CREATE TABLE received (cust INTEGER NOT NULL, volume INTEGER NOT NULL, bytes BLOB NOT NULL, state INTEGER NOT NULL, place INTEGER NOT NULL, rule INTEGER NOT NULL, PRIMARY KEY (cust, volume)) STRICT"

abbrev pub meta_text : List ℕ
meta_text = codes "CREATE TABLE meta (id INTEGER NOT NULL PRIMARY KEY, number INTEGER NOT NULL, register TEXT NOT NULL) STRICT"

abbrev pub by_blpu_text : List ℕ
by_blpu_text = codes "CREATE INDEX by_blpu ON version (cust, kind, blpu, gone)"

abbrev pub by_street_text : List ℕ
by_street_text = codes "CREATE INDEX by_street ON version (cust, kind, street, gone)"

-- `version` with one kind and one column more
abbrev pub version2_text : List ℕ
version2_text = codes "CREATE TABLE version2 (cust INTEGER NOT NULL, kind INTEGER NOT NULL CHECK (kind IN (11, 15, 21, 23, 24, 92)), id TEXT NOT NULL, blpu INTEGER NOT NULL, street INTEGER NOT NULL, lang INTEGER NOT NULL, live INTEGER NOT NULL, born INTEGER NOT NULL, gone INTEGER NOT NULL, body TEXT NOT NULL, hop INTEGER NOT NULL, PRIMARY KEY (cust, kind, id, born)) STRICT"

abbrev pub by_blpu2_text : List ℕ
by_blpu2_text = codes "CREATE INDEX by_blpu2 ON version2 (cust, kind, blpu, gone)"

abbrev pub by_street2_text : List ℕ
by_street2_text = codes "CREATE INDEX by_street2 ON version2 (cust, kind, street, gone)"

abbrev pub checks_of : Result Table CompileError → List Term
checks_of (Ok t) = t.checks
checks_of (Err e) = []

-- what CHECK tests, read from the text
unfoldable pub version_checks : List Term
version_checks = checks_of (table_defined_by version_text)

unfoldable pub version2_checks : List Term
version2_checks = checks_of (table_defined_by version2_text)

abbrev pub version_columns : List Column
version_columns = required (codes "cust") Integer ∷ required (codes "kind") Integer
    ∷ required (codes "id") Text ∷ required (codes "blpu") Integer
    ∷ required (codes "street") Integer ∷ required (codes "lang") Integer
    ∷ required (codes "live") Integer ∷ required (codes "born") Integer
    ∷ required (codes "gone") Integer ∷ required (codes "body") Text ∷ []

abbrev pub version2_columns : List Column
version2_columns = required (codes "cust") Integer ∷ required (codes "kind") Integer
    ∷ required (codes "id") Text ∷ required (codes "blpu") Integer
    ∷ required (codes "street") Integer ∷ required (codes "lang") Integer
    ∷ required (codes "live") Integer ∷ required (codes "born") Integer
    ∷ required (codes "gone") Integer ∷ required (codes "body") Text
    ∷ required (codes "hop") Integer ∷ []

abbrev pub received_columns : List Column
received_columns = required (codes "cust") Integer ∷ required (codes "volume") Integer
    ∷ required (codes "bytes") Blob ∷ required (codes "state") Integer
    ∷ required (codes "place") Integer ∷ required (codes "rule") Integer ∷ []

abbrev pub meta_columns : List Column
meta_columns = required (codes "id") Integer ∷ required (codes "number") Integer
    ∷ required (codes "register") Text ∷ []

-- where the tables stand
abbrev pub old_versions : ℕ
old_versions = 0

abbrev pub receiveds : ℕ
receiveds = 4

abbrev pub metas : ℕ
metas = 6

-- the rows of a store's items, and of what became of numbers
abbrev pub versions : ℕ
versions = 7

-- the items' rows in schema 1; in schema 2 it is empty once a store was migrated
abbrev pub version : Table
version = strict (codes "version") old_versions version_columns (1 ∷ 2 ∷ 3 ∷ 8 ∷ []) version_checks

abbrev pub received : Table
received = strict (codes "received") receiveds received_columns (1 ∷ 2 ∷ []) []

-- its id is the rowid
abbrev pub meta : Table
meta = keyed (Some 0) (codes "meta") metas meta_columns (0 ∷ []) [] []

abbrev pub version2 : Table
version2 = strict (codes "version2") versions version2_columns (1 ∷ 2 ∷ 3 ∷ 8 ∷ []) version2_checks

abbrev pub index_of : List ℕ → ℕ → ℕ → List ℕ → Index
index_of name tree table columns = record {
  name = name;
  tree = tree;
  table = table;
  columns = columns;
  order = record { digits = 0 };
  is_unique = false;
}

-- the indexes, in the order in which they are made
abbrev pub of_keys : Index
of_keys = automatic version 0 (1 ∷ 2 ∷ 3 ∷ 8 ∷ []) 1

abbrev pub by_blpu : Index
by_blpu = index_of (codes "by_blpu") 2 old_versions (1 ∷ 2 ∷ 4 ∷ 9 ∷ [])

abbrev pub by_street : Index
by_street = index_of (codes "by_street") 3 old_versions (1 ∷ 2 ∷ 5 ∷ 9 ∷ [])

abbrev pub of_volumes : Index
of_volumes = automatic received 0 (1 ∷ 2 ∷ []) 5

abbrev pub of_keys2 : Index
of_keys2 = automatic version2 0 (1 ∷ 2 ∷ 3 ∷ 8 ∷ []) 8

abbrev pub by_blpu2 : Index
by_blpu2 = index_of (codes "by_blpu2") 9 versions (1 ∷ 2 ∷ 4 ∷ 9 ∷ [])

abbrev pub by_street2 : Index
by_street2 = index_of (codes "by_street2") 10 versions (1 ∷ 2 ∷ 5 ∷ 9 ∷ [])

-- schema 1: what reads as its three tables and nothing else
abbrev pub first_schema : Schema
first_schema = record {
  tables = version ∷ received ∷ meta ∷ [];
  indexes = of_keys ∷ by_blpu ∷ by_street ∷ of_volumes ∷ [];
  views = [];
}

-- schema 2: what reads as the tables of schema 1, `version2` behind them, and nothing else
abbrev pub store_schema : Schema
store_schema = record {
  tables = version ∷ received ∷ meta ∷ version2 ∷ [];
  indexes =
      of_keys ∷ by_blpu ∷ by_street ∷ of_volumes ∷ of_keys2 ∷ by_blpu2 ∷ by_street2 ∷ [];
  views = [];
}
