-- Worked examples of databases of schema 1 and their migration, computed from the definitions.
use Rattle.std.specs.Prelude.{◌≡◌, ℕ, pos, ◌==◌, if◌then◌else◌, true, false, codes, take}
use Rattle.std.specs.Prelude.{List, [], ◌∷◌, Some, Ok, Err}
use Rattle.std.specs.FinMap as map
use Rattle.sqlite.specs.Effect.{Database}
use Rattle.sqlite.specs.Order.{Row}
use Rattle.sqlite.specs.Schema.{Schema}
use Rattle.sqlite.specs.Table.{Table}
use Rattle.sqlite.specs.declared.types.Value.TheVariants.{Int}
use Rattle.sqlite_trees.specs.Tree.{Trees}
use Rattle.gaz_records.specs.declared.key.Key.TheVariants as key
use Rattle.gaz_views.specs.Examples.{street}
use Rattle.gaz_tables.specs.Metas.{meta_row}
use Rattle.gaz_tables.specs.Migrating.{Migrates, with_hop}
use Rattle.gaz_tables.specs.MigratingExamples.{reordered_first}
use Rattle.gaz_tables.specs.Schema.{first_schema, meta, metas, old_versions, received, store_schema}
use Rattle.gaz_tables.specs.Schema.{version, version2}
use Rattle.gaz_tables.specs.Stores.{HasTables}
use Rattle.gaz_tables.specs.Tables.{rows_of}
use Rattle.gaz_row_items.specs.Examples.{changed, row_101}
use Rattle.gaz_row_items.specs.Versions.{values_of, view_in}
use Rattle.gaz_kept.specs.Migrated.{first_row, first_rows}
use Rattle.gaz_kept.specs.OpeningFirst.{IsJudgedFirst, has_first}
use Rattle.gaz_kept.specs.WorkedOpening.{others, ours}
use Rattle.gaz_kept.specs.declared.refusal.StoreRefusal.TheVariants.{BadSchema, OtherRegister}

-- ---- which are taken as one of schema 1

-- somebody's table `VERSION2` stands beside those of schema 1
abbrev pub version2_of_another : Table
version2_of_another = record meta { name = codes "VERSION2"; columns = [] }

abbrev pub with_another : Schema
with_another = record first_schema {
  tables = version ∷ received ∷ meta ∷ version2_of_another ∷ [];
}

pub record WorkedFirst : Type 0 where
  pub first : has_first first_schema ≡ true
  pub in_another_order : has_first reordered_first ≡ true
  pub second : has_first store_schema ≡ false
  pub beside_another : has_first with_another ≡ false
  pub taken : IsJudgedFirst ours (meta_row 1 ours ∷ []) (Ok tt)
  pub of_another : IsJudgedFirst ours (meta_row 1 others ∷ []) (Err OtherRegister)
  pub of_number_2 : IsJudgedFirst ours (meta_row 2 ours ∷ []) (Err BadSchema)

-- ---- two rows that are moved

-- 1001 inserted street 101 in volume 1 and changed it in volume 2
abbrev pub first_101 : Row
first_101 = take 11 row_101

abbrev pub first_changed : Row
first_changed = take 11 (Int (pos 2) ∷ values_of 1001 2 1000000 changed)

abbrev pub first_table : List Row
first_table = first_101 ∷ first_changed ∷ []

abbrev pub first_trees : Trees
first_trees tree =
    if tree == old_versions then first_table
    else (if tree == metas then meta_row 1 ours ∷ [] else [])

abbrev pub first_database : Database
first_database = record { schema = first_schema; trees = first_trees }

-- the same rows in schema 2, under other rowids
abbrev pub moved_changed : Row
moved_changed = Int (pos 1) ∷ values_of 1001 2 1000000 changed

abbrev pub moved_101 : Row
moved_101 = Int (pos 2) ∷ values_of 1001 1 2 (street 101)

abbrev pub moved_rows : List Row
moved_rows = moved_changed ∷ moved_101 ∷ []

-- the first of them is born a volume late
abbrev pub late_101 : Row
late_101 = Int (pos 2) ∷ values_of 1001 2 2 (street 101)

-- a database of schema 2 with these rows and no file, whose row of `meta` has a number
pub record HasMoved (items : List Row) (number : ℕ) (db : Database) : Type 0 where
  pub schema_is : db.schema ≡ store_schema
  pub tables : HasTables db
  pub items_are : rows_of db version2 ≡ items
  pub emptied : rows_of db version ≡ []
  pub no_files : rows_of db received ≡ []
  pub meta_is : rows_of db meta ≡ meta_row number ours ∷ []

abbrev pub IsMigration : Database → Type 0
IsMigration new = Migrates 2 ours first_database new

pub record WorkedMove : Type 0 where
  pub moved : with_hop first_101 ≡ values_of 1001 1 2 (street 101)
  pub says : first_row first_101 ≡ row_101
  pub inserted : map.get (view_in (first_rows first_table) 1001 1).items (key.Street 101)
      ≡ Some (street 101)
  pub updated : map.get (view_in (first_rows first_table) 1001 2).items (key.Street 101)
      ≡ Some changed
  pub both : (new : Database) → HasMoved moved_rows 2 new → IsMigration new
  pub one_that_ended_is_left : (new : Database) → HasMoved (moved_changed ∷ []) 2 new
      → ¬ IsMigration new
  pub another_birth : (new : Database) → HasMoved (moved_changed ∷ late_101 ∷ []) 2 new
      → ¬ IsMigration new
  pub still_number_1 : (new : Database) → HasMoved moved_rows 1 new → ¬ IsMigration new

pub record WorkedMigrated : Type 0 where
  pub on_first : WorkedFirst
  pub on_moves : WorkedMove
