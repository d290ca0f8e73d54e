-- What the next opening of a store's tables answers.
use Rattle.std.specs.Prelude.{◌≡◌, ◌⊎◌, List, Result, Ok, Err}
use Rattle.sqlite.specs.Effect.{Database}
use Rattle.sqlite.specs.Held.{Held, state}
use Rattle.sqlite.specs.State.{HasCleanDisk}
use Rattle.sqlite_trees.specs.declared.store.Store.{Ghosts}
use Rattle.gaz_register.specs.Registers.{RegisterValue}
use Rattle.gaz_register.specs.Texts.{register_text}
use Rattle.gaz_tables.specs.Schema.{meta}
use Rattle.gaz_tables.specs.Stores.{HasTables}
use Rattle.gaz_tables.specs.Tables.{rows_of}
use Rattle.gaz_kept.specs.Opening.{IsOf, Judges}
use Rattle.gaz_kept.specs.declared.refusal.StoreRefusal.{StoreRefusal}
use Rattle.gaz_kept.specs.declared.refusal.StoreRefusal.TheVariants.{Fault}
use Rattle.gaz_steps.specs.Step.{Command, HubState, Response}
use Rattle.gaz_stored.specs.Stopping.{FindsLater, MayBeLeft}

-- the tables are a store's, and of this register, whatever they stand for
pub record HasStoreOf (register : RegisterValue) (db : Database) : Type 0 where
  pub tables : HasTables db
  pub whose : IsOf (register_text register) (rows_of db meta)

-- neither that it is no store, nor one of another register
abbrev pub OpensOrFails : Result (Unit {0}) StoreRefusal → Type 0
OpensOrFails answer = (answer ≡ Ok tt) ⊎ (answer ≡ Err Fault)

module _ {S : Type 0} (g : Ghosts S) where
  -- what is answered where a connection is opened as a store of this register, of which that one is
  -- left, on a disk that returned what was written
  abbrev pub OpensThen : RegisterValue → Held S → Held S → Type 0
  OpensThen register conn next = (answer : Result (Unit {0}) StoreRefusal)
      → HasCleanDisk (state g next) → Judges g conn next answer (register_text register)
      → OpensOrFails answer

  pub record OpensAgain : Type 0 where
    -- over one that shows a store's tables
    pub store : (register : RegisterValue) (conn next : Held S)
        → HasStoreOf register (state g conn).now → OpensThen register conn next
    -- or what a stop left
    pub left : (register : RegisterValue) (before : HubState) (commands : List Command)
        (responses : List Response) (after conn next : Held S)
        → FindsLater register before commands responses (state g after)
        → MayBeLeft (state g after) (state g conn).now → OpensThen register conn next
