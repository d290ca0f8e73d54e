-- What whoever keeps something in the tables may rest on.
use Rattle.std.specs.Prelude.{◌≡◌, ◌≢◌, ℕ, List}
use Rattle.sqlite_value.specs.declared.keys.Collation.{Collation}
use Rattle.sqlite.specs.Effect.{Database, IsDatabase}
use Rattle.sqlite.specs.Order.{Row}
use Rattle.sqlite.specs.View.{IsShaped}
use Rattle.sqlite_rules.specs.Lists.{Has}
use Rattle.sqlite_schema.specs.declared.schema.Table.{Table}
use Rattle.sqlite_sql.specs.Term.{Term}
use Rattle.sqlite_trees.specs.declared.store.Shape.TheVariants as shape
use Rattle.gaz_sql_facts.specs.Meaning.{CopiesAnywhere, MeansAnywhere, OnTable}
use Rattle.gaz_tables.specs.Metas.{rows_text}
use Rattle.gaz_tables.specs.Migrating.{HasFirstTables}
use Rattle.gaz_tables.specs.Receiveds.{IsVolume}
use Rattle.gaz_tables.specs.Schema.{first_schema, meta, received, store_schema, version, version2}
use Rattle.gaz_tables.specs.Stores.{ChangesTable, HasTables}
use Rattle.gaz_tables.specs.Tables.{HasTable, rows_of}
use Rattle.gaz_tables.specs.Texts.{apply_text, approved_of_text, approved_on_text}
use Rattle.gaz_tables.specs.Texts.{close_version_text, copy_versions_text}
use Rattle.gaz_tables.specs.Texts.{custody_behind_text, empty_versions_text}
use Rattle.gaz_tables.specs.Texts.{file_text, first_rows_text, held_versions_text}
use Rattle.gaz_tables.specs.Texts.{insert_meta_text, insert_version_text, newest_custody_text}
use Rattle.gaz_tables.specs.Texts.{newest_custody_until_text, newest_version_text}
use Rattle.gaz_tables.specs.Texts.{newest_version_until_text, parts_of_text, receive_text}
use Rattle.gaz_tables.specs.Texts.{reject_text, rewrite_meta_text, rows_behind_text}
use Rattle.gaz_tables.specs.Texts.{verdict_text, volumes_above_text}
use Rattle.gaz_tables.specs.Versions.{IsOfBirth}

-- no two rows of one key are born in one volume
abbrev pub BornOnce : Type 0
BornOnce = (db : Database) (cust kind : ℕ) (id : List ℕ) (born : ℕ) (r s : Row) → HasTables db
    → Has (rows_of db version2) r → Has (rows_of db version2) s → IsOfBirth cust kind id born r
    → IsOfBirth cust kind id born s → s ≡ r

-- no volume is received twice
abbrev pub ReceivedOnce : Type 0
ReceivedOnce = (db : Database) (cust volume : ℕ) (r s : Row) → HasTables db
    → Has (rows_of db received) r → Has (rows_of db received) s → IsVolume cust volume r
    → IsVolume cust volume s → s ≡ r

-- the table becomes any rows
abbrev pub BecomesAny : List Row → List Row → Type 0
BecomesAny old new = Unit {0}

-- where a table's rows become others, the database still has a store's tables, and each other table
-- has the same rows
abbrev pub TablesStay : Type 0
TablesStay = (table : Table) (old new : Database) → HasTables old → HasTable table old.schema
    → ChangesTable table BecomesAny old new
    → HasTables new
    × ((other : Table) → HasTable other old.schema → other.name ≢ table.name
    → rows_of new other ≡ rows_of old other)

-- a sound database of a store's own schema has a store's tables
abbrev pub OwnTables : Type 0
OwnTables = (db : Database) → db.schema ≡ store_schema → IsDatabase db
    → IsShaped shape.Table (rows_of db version2) → IsShaped shape.Table (rows_of db received)
    → IsShaped shape.Table (rows_of db meta) → HasTables db

-- a sound database of schema 1's own schema has the tables of schema 1, and room for schema 2
abbrev pub OwnFirstTables : Type 0
OwnFirstTables = (db : Database) → db.schema ≡ first_schema → IsDatabase db
    → IsShaped shape.Table (rows_of db version) → IsShaped shape.Table (rows_of db received)
    → IsShaped shape.Table (rows_of db meta) → HasFirstTables db

-- where a database has a store's tables, each of the same trees has them, with the same rows
abbrev pub TreesTell : Type 0
TreesTell = (one other : Database) → HasTables one → IsDatabase other → other.trees ≡ one.trees
    → HasTables other × ((table : Table) → rows_of other table ≡ rows_of one table)

-- the text is one command on the table, in any schema in which such a table stands
abbrev pub HangsOn : Table → List ℕ → Type 0
HangsOn table text = (it : OnTable) × MeansAnywhere table text it

-- the text copies one table into another, in any schema in which two such tables stand
abbrev pub HangsOnBoth : Table → Table → List ℕ → Type 0
HangsOnBoth source target text = (project : List Term) × (collations : List Collation)
    × CopiesAnywhere source target text project collations

-- no statement over one table asks for anything beside it, nor the copy for anything beside its two
pub record StatementsStandAlone : Type 0 where
  pub newest_version : HangsOn version2 newest_version_text
  pub newest_version_until : HangsOn version2 newest_version_until_text
  pub held_versions : HangsOn version2 held_versions_text
  pub approved_of : HangsOn version2 approved_of_text
  pub approved_on : HangsOn version2 approved_on_text
  pub parts_of : HangsOn version2 parts_of_text
  pub insert_version : HangsOn version2 insert_version_text
  pub close_version : HangsOn version2 close_version_text
  pub newest_custody : HangsOn version2 newest_custody_text
  pub newest_custody_until : HangsOn version2 newest_custody_until_text
  pub custody_behind : HangsOn version2 custody_behind_text
  pub first_rows : HangsOn version2 first_rows_text
  pub rows_behind : HangsOn version2 rows_behind_text
  pub file : HangsOn received file_text
  pub verdict : HangsOn received verdict_text
  pub volumes_above : HangsOn received volumes_above_text
  pub receive : HangsOn received receive_text
  pub apply : HangsOn received apply_text
  pub reject : HangsOn received reject_text
  pub meta_rows : HangsOn meta rows_text
  pub insert_meta : HangsOn meta insert_meta_text
  pub rewrite_meta : HangsOn meta rewrite_meta_text
  pub empty_versions : HangsOn version empty_versions_text
  pub copy_versions : HangsOnBoth version version2 copy_versions_text
