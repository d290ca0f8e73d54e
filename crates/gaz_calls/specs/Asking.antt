-- What a call tells that asks the tables and writes nothing.
use Rattle.std.specs.Prelude.{◌≡◌, ◌≢◌, ◌==◌, ◌≤◌, ◌<◌, ◌-◌, ◌^◌, ⊤, if◌then◌else◌, false, ℕ}
use Rattle.std.specs.Prelude.{Result, Ok, Err, IfOk, IfErr, IsTrue, OnOk, OnErr}
use Rattle.sqlite.specs.Effect.{Database}
use Rattle.sqlite.specs.Held.{state}
use Rattle.sqlite.specs.State.{HasCleanDisk, State, Survives}
use Rattle.sqlite_trees.specs.declared.store.Store.{Ghosts}
use Rattle.gaz_keeper.specs.declared.fault.ShelfFault.{ShelfFault}
use Rattle.gaz_keeper.specs.declared.fault.ShelfFault.TheVariants.{Memory, Store}
use Rattle.gaz_tables.specs.Schema.{received}
use Rattle.gaz_tables.specs.Stores.{HasTables}
use Rattle.gaz_tables.specs.Tables.{rows_of}
use Rattle.gaz_kept.specs.Kept.{IsKept}
use Rattle.gaz_calls.specs.Remembered.{AreSo}
use Rattle.gaz_calls.specs.Seen.{IsQuiet, IsUnharmed}
use Rattle.gaz_kept.specs.Opening.{IsSettled}
use Rattle.gaz_calls.specs.declared.tables.Tables.{Tables}

-- no failure is forgotten, and one of the store is counted
pub record Tallies {T : Type 0} (before after : ℕ) (result : Result T ShelfFault) : Type 0 where
  pub kept : before ≤ after
  pub store : IfErr result (λ e. e ≡ Store → before < after)

-- the answer is right of what the tables hold, nothing changes, and a stop leaves nothing more
pub record Asks {T : Type 0} (old new : State) (result : Result T ShelfFault)
    (IsRight : Database → T → Type 0) : Type 0 where
  pub harm : IsUnharmed new → IsUnharmed old
  pub trust : HasCleanDisk new → HasCleanDisk old
  pub rests : IsUnharmed new → HasTables old.now → new.now ≡ old.now
  pub right : IsUnharmed new → IsKept old.now → IfOk result (IsRight old.now)
  pub leaves : (IsUnharmed old → HasTables old.now) → Survives old new (λ _. ⊥)

-- it isn't told that the store failed
abbrev pub IsNoFailure : {T : Type 0} → Result T ShelfFault → Type 0
IsNoFailure result = IfErr result (λ e. e ≢ Store)

-- it isn't, where nothing failed meanwhile of what the tables stand on, and they are what a store
-- keeps
abbrev pub IsServed : {T : Type 0} → State → State → Result T ShelfFault → Type 0
IsServed old new result = IsQuiet old new → IsKept old.now → IsNoFailure result

-- whatever the answer
abbrev pub IsAnyway : {T : Type 0} → Database → T → Type 0
IsAnyway db x = ⊤

-- a call on tables that only asks them
pub record AsksTables {S : Type 0} {store : Ghosts S} {T : Type 0} (old new : Tables S store)
    (result : Result T ShelfFault) (IsRight : Database → T → Type 0) : Type 0 where
  pub asks : Asks (state store old.conn) (state store new.conn) result IsRight
  pub served : IsServed (state store old.conn) (state store new.conn) result
  pub tallies : Tallies old.failures new.failures result
  pub at_hand : new.at_hand ≡ old.at_hand

-- a call that answers from what is at hand, or asks the tables and may have the answer at hand then
pub record Recalls {S : Type 0} {store : Ghosts S} {T : Type 0} (old new : Tables S store)
    (result : Result T ShelfFault) (IsRight : Database → T → Type 0) : Type 0 where
  pub asks : Asks (state store old.conn) (state store new.conn) result
      (λ db x. AreSo old.at_hand (rows_of db received) → IsRight db x)
  pub served : IsServed (state store old.conn) (state store new.conn) result
  pub tallies : Tallies old.failures new.failures result
  pub at_hand : IsUnharmed (state store new.conn) → IsKept (state store old.conn).now
      → AreSo old.at_hand (rows_of (state store old.conn).now received)
      → AreSo new.at_hand (rows_of (state store old.conn).now received)

-- ---- within a call

-- a statement may be asked of the tables: their connection is open, where the disk returned what
-- was written, and shows what was committed; once one was asked it isn't known to be open
pub record AreReady {S : Type 0} {store : Ghosts S} (t : Tables S store) : Type 0 where
  pub is_open : HasCleanDisk (state store t.conn) → IsTrue (state store t.conn).is_open
  pub settled : IsSettled (state store t.conn)
  pub unsure : t.sure ≡ false

-- a fault changes nothing but the count of failures, and one of the store is counted
pub record Fails {S : Type 0} {store : Ghosts S} (old new : Tables S store) (fault : ShelfFault)
    : Type 0 where
  pub conn : new.conn ≡ old.conn
  pub at_hand : new.at_hand ≡ old.at_hand
  pub kept : old.failures ≤ new.failures
  pub counted : fault ≡ Store → old.failures < new.failures

-- what a failure is told as behind so many that were counted: one of the store, or where no more
-- can be counted want of memory
abbrev pub failure_behind : ℕ → ShelfFault
failure_behind failures = if failures == 2 ^ 64 - 1 then Memory else Store

-- no error is
abbrev pub IsNever : {E : Type 0} → E → Type 0
IsNever e = ⊥

-- what was answered, by the connection or by whoever read its rows, or the fault that its error is:
-- `Memory` where the error is of those that are want of memory, else a failure
pub record Tells {S : Type 0} {store : Ghosts S} {T E : Type 0} (IsWant : E → Type 0)
    (old new : Tables S store) (answer : Result T E) (result : Result T ShelfFault) : Type 0 where
  pub conn : new.conn ≡ old.conn
  pub at_hand : new.at_hand ≡ old.at_hand
  pub same : IfOk result (λ x. answer ≡ Ok x)
  pub fault : OnErr result (OnOk answer ⊥)
  pub memory : (e : E) → IsWant e → answer ≡ Err e → result ≡ Err Memory
  pub failure : (e : E) → ¬ IsWant e → answer ≡ Err e
      → result ≡ Err (failure_behind old.failures)
  pub tallies : Tallies old.failures new.failures result
