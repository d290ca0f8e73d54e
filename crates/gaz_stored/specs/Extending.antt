-- A register that grows over the store behind a connection.
use Rattle.std.specs.Prelude.{◌≡◌, ◌⊎◌, Result, OnErr, OnOk}
use Rattle.std.specs.declared.marker.Brand.{Brand}
use Rattle.sqlite.specs.Effect.{Database}
use Rattle.sqlite.specs.Held.{Held, state}
use Rattle.sqlite.specs.State.{HasCleanDisk}
use Rattle.sqlite_trees.specs.declared.store.Store.{Ghosts}
use Rattle.gaz_register.specs.Growing.{Extends}
use Rattle.gaz_register.specs.Registers.{RegisterValue}
use Rattle.gaz_register.specs.Texts.{register_text}
use Rattle.gaz_tables.specs.Schema.{meta}
use Rattle.gaz_tables.specs.Stores.{HasTables}
use Rattle.gaz_tables.specs.Tables.{rows_of}
use Rattle.gaz_kept.specs.Opening.{IsOf}
use Rattle.gaz_calls.specs.Growing.{TellsGrowth, ToldOf, register_then}
use Rattle.gaz_calls.specs.Seen.{IsUnharmed}
use Rattle.gaz_calls.specs.declared.growing.ExtendFault.{ExtendFault}
use Rattle.gaz_store.specs.declared.store.Store.{Store}
use Rattle.gaz_stored.specs.Runs.{StandForRun, hub_in}
use Rattle.gaz_stored.specs.Stopping.{LeavesItself, MayBeLeft}
use Rattle.gaz_stored.specs.Using.{IsOpenedFrom}

-- the tables stand for the hub that they stood for, and for a partial run under this register
pub record StandsStill (register : RegisterValue) (old new : Database) : Type 0 where
  pub hub : hub_in new ≡ hub_in old
  pub stands : StandForRun register new

-- what a stop leaves: the same, of either register, of the grown one only where it is a growth
pub record StopsBetween (register grown : RegisterValue) (told : Result (Unit {0}) ExtendFault)
    (old new : Database) : Type 0 where
  pub still : StandsStill register old new
  pub whose : IsOf (register_text register) (rows_of new meta)
      ⊎ (Extends register grown × IsOf (register_text grown) (rows_of new meta))
  -- once it is told as done, of the grown one
  pub done : OnOk told (IsOf (register_text grown) (rows_of new meta))

-- the store that was opened so was to grow from this register to that one, and this was told
pub record ExtendsOpened {S : Type 0} (g : Ghosts S) (register grown : RegisterValue)
    (before after : Held S) (told : Result (Unit {0}) ExtendFault) : Type 0 where
  pub first : Store S Brand g
  pub opened : IsOpenedFrom g register before first
  pub trust : HasCleanDisk (state g after) → HasCleanDisk (state g first.tables.conn)
  -- an Ok is told of a growth alone, and what was refused was none
  pub growth : TellsGrowth register grown told
  -- the row of `meta` was of the register, and after an Ok it is of the grown one
  pub registers : IsUnharmed (state g after) → HasTables (state g before).now
      → ToldOf g before after register grown told
  -- else nothing has changed
  pub undone : IsUnharmed (state g after) → HasTables (state g before).now
      → OnErr told ((state g after).now ≡ (state g before).now)
  -- where the tables stand for a partial run they go on to stand for the same hub
  pub stays : IsUnharmed (state g after) → StandForRun register (state g before).now
      → StandsStill register (state g before).now (state g after).now
  -- as a store of the register that was told
  pub whose : IsUnharmed (state g after) → StandForRun register (state g before).now
      → IsOf (register_text (register_then register grown told)) (rows_of (state g after).now meta)
  -- and so does what a stop leaves at the end, where a stop left just these tables at the beginning
  pub stops : StandForRun register (state g before).now → LeavesItself (state g before)
      → (db : Database) → MayBeLeft (state g after) db
      → StopsBetween register grown told (state g before).now db
