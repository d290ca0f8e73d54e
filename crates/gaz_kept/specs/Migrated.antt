-- What a database of schema 1 stands for, and that it stands for the same once it is migrated.
use Rattle.std.specs.Prelude.{ℕ, List, ◌∷◌, map}
use Rattle.sqlite.specs.Effect.{Database}
use Rattle.sqlite.specs.Order.{Row, column}
use Rattle.gaz_views.specs.View.{View}
use Rattle.gaz_keeper.specs.Keeper.{Content}
use Rattle.gaz_tables.specs.Migrating.{HasFirstTables, Migrates, with_hop}
use Rattle.gaz_tables.specs.Schema.{meta, received, version}
use Rattle.gaz_tables.specs.Tables.{rows_of}
use Rattle.gaz_kept.specs.Contents.{content_of}
use Rattle.gaz_kept.specs.Kept.{AreKept}
use Rattle.gaz_kept.specs.Opening.{IsOf, schema_number}
use Rattle.gaz_kept.specs.OpeningFirst.{IsOfFirst}
use Rattle.gaz_kept.specs.Stands.{Stands}

-- the rows of `version` say what rows of `version2` say, with hop 0 behind them
abbrev pub first_row : Row → Row
first_row r = column r 0 ∷ with_hop r

abbrev pub first_rows : List Row → List Row
first_rows rows = map first_row rows

-- the database of schema 1 is what a store keeps
abbrev pub IsFirstKept : Database → Type 0
IsFirstKept db =
    AreKept (HasFirstTables db) (rows_of db received) (first_rows (rows_of db version))

-- its tables hold files and board; the working view stands beside them
abbrev pub first_content_in : Database → View → Content
first_content_in db working =
    content_of (rows_of db received) (first_rows (rows_of db version)) working

pub record MigrationStands : Type 0 where
  -- the tables are a store's, and stand for what those of schema 1 stood for
  pub stands : (register : List ℕ) (working : View) (old new : Database) → IsFirstKept old
      → Migrates schema_number register old new
      → Stands new working (first_content_in old working)
  -- of one register they make a store of this register
  pub is_of : (one other : List ℕ) (old new : Database) → HasFirstTables old
      → IsOfFirst one (rows_of old meta) → Migrates schema_number other old new
      → IsOf other (rows_of new meta)
