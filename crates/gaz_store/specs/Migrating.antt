-- A store that was made of the tables of schema 1.
use Rattle.std.specs.Prelude.{◌≡◌, ℕ, List}
use Rattle.sqlite.specs.State.{HasCleanDisk, State}
use Rattle.gaz_views.specs.View.{empty_view}
use Rattle.gaz_keeper.specs.Keeper.{Idle, LeavesOnly, Seen}
use Rattle.gaz_tables.specs.Migrating.{HasFirstTables, Migrates}
use Rattle.gaz_tables.specs.Schema.{meta}
use Rattle.gaz_tables.specs.Tables.{rows_of}
use Rattle.gaz_kept.specs.Migrated.{IsFirstKept, first_content_in}
use Rattle.gaz_kept.specs.Opening.{schema_number}
use Rattle.gaz_kept.specs.OpeningFirst.{IsOfFirst}

-- a store of this register was made of the tables of schema 1: it stands for what they did, and a
-- stop leaves just that
pub record IsMoved (old new : State) (register : List ℕ) (now : Seen) : Type 0 where
  pub idle : now.progress ≡ Idle
  pub failures : now.failures ≡ 0
  pub harm : now.unharmed → HasCleanDisk old
  pub becomes : now.unharmed → HasFirstTables old.now
      → Migrates schema_number register old.now new.now
  pub of_register : now.unharmed → HasFirstTables old.now
      → IsOfFirst register (rows_of old.now meta)
  pub stands : now.unharmed → IsFirstKept old.now → now.stands
  pub content : now.unharmed → IsFirstKept old.now
      → now.content ≡ first_content_in old.now empty_view
  pub leaves : now.unharmed → IsFirstKept old.now
      → LeavesOnly (first_content_in old.now empty_view) now
  pub whole : now.unharmed → IsFirstKept old.now → now.whole
