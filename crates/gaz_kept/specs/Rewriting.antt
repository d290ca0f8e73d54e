-- What becomes of a store where its row of `meta` gets another register.
use Rattle.std.specs.Prelude.{ℕ, List}
use Rattle.sqlite.specs.Effect.{Database}
use Rattle.gaz_views.specs.View.{View}
use Rattle.gaz_tables.specs.Metas.{Rewrites}
use Rattle.gaz_tables.specs.Schema.{meta}
use Rattle.gaz_tables.specs.Stores.{ChangesTable, HasTables}
use Rattle.gaz_tables.specs.Tables.{rows_of}
use Rattle.gaz_kept.specs.Contents.{content_in}
use Rattle.gaz_kept.specs.Kept.{IsKept}
use Rattle.gaz_kept.specs.Opening.{IsOf, schema_number}
use Rattle.gaz_kept.specs.Stands.{Stands}

-- the row of `meta` gets the text of this register, and no other table changes
abbrev pub Registers : List ℕ → Database → Database → Type 0
Registers register = ChangesTable meta (Rewrites schema_number register)

pub record RewritesStand : Type 0 where
  -- the tables are a store's, and stand for what they stood for
  pub stands : (register : List ℕ) (working : View) (old new : Database) → IsKept old
      → Registers register old new → Stands new working (content_in old working)
  -- of a store of one register they make one of the other
  pub is_of : (one other : List ℕ) (old new : Database) → HasTables old
      → IsOf one (rows_of old meta) → Registers other old new → IsOf other (rows_of new meta)
