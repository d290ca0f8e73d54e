-- A store of schema 1 behind a connection, and the store that is made of it.
use Rattle.std.specs.Prelude.{◌≡◌, ◌⊎◌, Bool, true, false, Ok, Err}
use Rattle.sqlite.specs.Effect.{Database}
use Rattle.sqlite.specs.Held.{Held, state}
use Rattle.sqlite.specs.State.{HasCleanDisk}
use Rattle.sqlite_trees.specs.Tree.{Trees}
use Rattle.sqlite_trees.specs.declared.store.Store.{Ghosts}
use Rattle.gaz_register.specs.Registers.{RegisterValue}
use Rattle.gaz_register.specs.Texts.{register_text}
use Rattle.gaz_views.specs.View.{empty_view}
use Rattle.gaz_tables.specs.Migrating.{HasFirstTables, Migrates}
use Rattle.gaz_tables.specs.Schema.{meta}
use Rattle.gaz_tables.specs.Tables.{rows_of}
use Rattle.gaz_kept.specs.Migrated.{IsFirstKept, first_content_in}
use Rattle.gaz_kept.specs.Opening.{Judges, Tells, Untouched, has_all, schema_number}
use Rattle.gaz_kept.specs.OpeningFirst.{IsOfFirst, JudgesFirst, TellsFirst, has_first}
use Rattle.gaz_kept.specs.declared.refusal.StoreRefusal.{StoreRefusal}
use Rattle.gaz_kept.specs.declared.refusal.StoreRefusal.TheVariants.{BadSchema}
use Rattle.gaz_steps.specs.Hubs.{MayHave, door_of, state_of}
use Rattle.gaz_steps.specs.Step.{HubState}
use Rattle.gaz_calls.specs.Seen.{IsUnharmed}
use Rattle.gaz_store.specs.Opened.{IsRefused}
use Rattle.gaz_stored.specs.Runs.{IsStoreOf, hub_in}
use Rattle.gaz_stored.specs.Stopping.{LeavesItself, MayBeLeft}
use Rattle.gaz_stored.specs.declared.migrating.Migration.{Migration}
use Rattle.gaz_stored.specs.declared.migrating.Migration.TheVariants.{Done, Current}

-- the hub that the tables of schema 1 stand for
abbrev pub first_hub_in : Database → HubState
first_hub_in db = state_of (first_content_in db empty_view)

-- the tables are those of schema 1, and stand for a partial run of files of custodians that are
-- known
pub record FirstStandForRun (register : RegisterValue) (db : Database) : Type 0 where
  pub kept : IsFirstKept db
  pub may : MayHave (door_of register) (first_content_in db empty_view)

-- the tables are a store's of this register, and stand for the hub that those of schema 1 stood for
pub record StandsMoved (register : RegisterValue) (old new : Database) : Type 0 where
  pub hub : hub_in new ≡ first_hub_in old
  pub store : IsStoreOf register new

-- the tables of schema 1 are of this register
abbrev pub IsFirstOf : RegisterValue → Database → Type 0
IsFirstOf register db = IsOfFirst (register_text register) (rows_of db meta)

-- a migration makes just that of tables of the register that stood for a partial run
abbrev pub MigratedStands : Type 0
MigratedStands = (register : RegisterValue) (old new : Database) → FirstStandForRun register old
    → IsFirstOf register old → Migrates schema_number (register_text register) old new
    → StandsMoved register old new

-- what is told, by whether the tables were those of schema 1
abbrev pub told_of : Bool → Migration
told_of true = Done
told_of false = Current

-- the trees are as they were, or are those of a store that stands for the same hub
abbrev pub StillOrMoved : RegisterValue → Database → Trees → Type 0
StillOrMoved register old trees = (trees ≡ old.trees)
    ⊎ ((new : Database) × (trees ≡ new.trees) × StandsMoved register old new)

-- Below, a call was given one connection, whose state `g` shows, and handed another back.
module _ {S : Type 0} (g : Ghosts S) (register : RegisterValue) (before after : Held S) where
  abbrev old : Database
  old = (state g before).now

  -- what a stop leaves in the end, where a stop left just the tables of schema 1 at the beginning
  abbrev pub StopsMoving : Type 0
  StopsMoving = FirstStandForRun register old → IsFirstOf register old
      → LeavesItself (state g before) → (trees : Trees) → HasCleanDisk (state g after)
      → (state g after).may_leave trees → StillOrMoved register old trees

  -- there was a store, or one was made of the tables of schema 1, and this was told
  pub record MigratesOpened (told : Migration) : Type 0 where
    -- there were the tables of a store, or those of schema 1
    pub some : (has_all old.schema ≡ true) ⊎ (has_first old.schema ≡ true)
    -- it was of schema 1 just where that is told
    pub told_is : told ≡ told_of (has_first old.schema)
    -- the row of `meta` was of the register
    pub of_store : Tells g before after (Ok tt) (register_text register)
    pub of_first : TellsFirst g before after (Ok tt) (register_text register)
    -- where the disk is clean in the end, it was before
    pub trust : HasCleanDisk (state g after) → HasCleanDisk (state g before)
    -- a store is as it was
    pub current : told ≡ Current → Untouched g before after
    -- tables of schema 1 become those of a store, with the same rows, beside whatever is there
    pub becomes : IsUnharmed (state g after) → HasFirstTables old
        → Migrates schema_number (register_text register) old (state g after).now
    -- where they stood for a partial run, they go on to stand for the same hub
    pub moves : IsUnharmed (state g after) → FirstStandForRun register old
        → StandsMoved register old (state g after).now
    -- and so does what a stop leaves then
    pub stops : IsUnharmed (state g after) → FirstStandForRun register old
        → (db : Database) → MayBeLeft (state g after) db → StandsMoved register old db

  -- there is none of this register, for this reason: what is told of the rows of `meta`, of either
  -- schema; the database holds what it held
  pub record LacksBoth (why : StoreRefusal) : Type 0 where
    pub lacking : has_all old.schema ≡ false → has_first old.schema ≡ false → why ≡ BadSchema
    pub rows : Tells g before after (Err why) (register_text register)
    pub judged : Judges g before after (Err why) (register_text register)
    pub rows_first : TellsFirst g before after (Err why) (register_text register)
    pub judged_first : JudgesFirst g before after (Err why) (register_text register)
    pub refused : IsRefused g before after
