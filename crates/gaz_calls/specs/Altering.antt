-- What a call tells that writes the tables in a transaction of its own.
use Rattle.std.specs.Prelude.{◌≡◌, Result, IsTrue, OnOk, OnErr}
use Rattle.sqlite.specs.Effect.{Database}
use Rattle.sqlite.specs.Held.{state}
use Rattle.sqlite.specs.State.{HasCleanDisk, State, Survives}
use Rattle.sqlite_trees.specs.Tree.{Trees}
use Rattle.sqlite_trees.specs.declared.store.Store.{Ghosts}
use Rattle.gaz_keeper.specs.declared.fault.ShelfFault.{ShelfFault}
use Rattle.gaz_tables.specs.Schema.{received}
use Rattle.gaz_tables.specs.Stores.{HasTables}
use Rattle.gaz_tables.specs.Tables.{rows_of}
use Rattle.gaz_kept.specs.Kept.{IsKept}
use Rattle.gaz_calls.specs.Asking.{Tallies}
use Rattle.gaz_calls.specs.Remembered.{AreSo}
use Rattle.gaz_calls.specs.Seen.{IsUnharmed}
use Rattle.gaz_calls.specs.declared.tables.Tables.{Tables}

-- what a stop may leave where the database becomes another
pub record MayWrite (old : State) (Becomes : Database → Database → Type 0)
    (trees : Trees) : Type 0 where
  pub unharmed : IsUnharmed old
  pub db : Database
  pub shown : trees ≡ db.trees
  pub becomes : Becomes old.now db

-- the database becomes another and that is committed, or a fault changes nothing
pub record Alters {T : Type 0} (old new : State) (result : Result T ShelfFault)
    (Becomes : Database → Database → Type 0) : Type 0 where
  pub harm : IsUnharmed new → IsUnharmed old
  pub trust : HasCleanDisk new → HasCleanDisk old
  pub is_open : HasCleanDisk new → OnOk result (IsTrue new.is_open)
  pub done : IsUnharmed new → HasTables old.now → OnOk result (Becomes old.now new.now)
  pub undone : IsUnharmed new → HasTables old.now → OnErr result (new.now ≡ old.now)
  pub leaves : (IsUnharmed old → HasTables old.now) → Survives old new (MayWrite old Becomes)
  pub committed : IsUnharmed new → HasTables old.now
      → OnOk result ((trees : Trees) → new.may_leave trees → trees ≡ new.now.trees)

-- a call on tables that writes them, and leaves what is at hand as it was
pub record AltersTables {S : Type 0} {store : Ghosts S} {T : Type 0} (old new : Tables S store)
    (result : Result T ShelfFault) (Becomes : Database → Database → Type 0) : Type 0 where
  pub alters : Alters (state store old.conn) (state store new.conn) result Becomes
  pub tallies : Tallies old.failures new.failures result
  pub at_hand : new.at_hand ≡ old.at_hand

-- a call on tables that writes them; where what it asks of them is so, what is at hand stays so
pub record Writes {S : Type 0} {store : Ghosts S} {T : Type 0} (old new : Tables S store)
    (result : Result T ShelfFault) (IsAsked : Database → Type 0)
    (Becomes : Database → Database → Type 0) : Type 0 where
  pub alters : Alters (state store old.conn) (state store new.conn) result Becomes
  pub tallies : Tallies old.failures new.failures result
  pub at_hand : IsUnharmed (state store new.conn) → IsKept (state store old.conn).now
      → AreSo old.at_hand (rows_of (state store old.conn).now received)
      → IsAsked (state store old.conn).now
      → AreSo new.at_hand (rows_of (state store new.conn).now received)
