-- A store that was made, one that was opened, and what is handed back where there is none.
use Rattle.std.specs.Prelude.{◌≡◌, false, ℕ, List, Result, Ok, Err, IsTrue}
use Rattle.sqlite.specs.Held.{Held, state}
use Rattle.sqlite.specs.State.{State, HasCleanDisk, Survives}
use Rattle.sqlite_trees.specs.declared.store.Store.{Ghosts}
use Rattle.gaz_views.specs.View.{empty_view}
use Rattle.gaz_keeper.specs.Keeper.{Idle, LeavesOnly, Seen, empty_content}
use Rattle.gaz_tables.specs.Creating.{HasRoom, KeepsEach}
use Rattle.gaz_tables.specs.Schema.{meta}
use Rattle.gaz_tables.specs.Stores.{HasTables}
use Rattle.gaz_tables.specs.Tables.{rows_of}
use Rattle.gaz_kept.specs.Contents.{content_in}
use Rattle.gaz_kept.specs.Kept.{IsKept}
use Rattle.gaz_kept.specs.Opening.{IsOf, Rests}
use Rattle.gaz_kept.specs.declared.refusal.StoreRefusal.{StoreRefusal}
use Rattle.gaz_calls.specs.Seen.{LeavesKept}
use Rattle.gaz_store.specs.declared.store.Store.{Store}

-- a store of this register was made in a database that has room, over an open connection: nothing
-- is received or judged, a stop leaves just that, and each table that was there is there still,
-- with the rows it had
pub record IsMade (old new : State) (register : List ℕ) (now : Seen) : Type 0 where
  pub idle : now.progress ≡ Idle
  pub failures : now.failures ≡ 0
  pub is_open : HasCleanDisk new → IsTrue new.is_open
  -- where the disk is clean in the end, it was before
  pub trust : HasCleanDisk new → HasCleanDisk old
  pub stands : now.unharmed → HasRoom old.now.schema → now.stands
  pub content : now.unharmed → HasRoom old.now.schema → now.content ≡ empty_content
  pub leaves : now.unharmed → HasRoom old.now.schema → LeavesOnly empty_content now
  pub whole : now.unharmed → HasRoom old.now.schema → now.whole
  pub of_register : now.unharmed → HasRoom old.now.schema → IsOf register (rows_of new.now meta)
  pub others : now.unharmed → HasRoom old.now.schema → KeepsEach old.now new.now

-- a store's tables were opened as a store of this register: they stand for what they did, and a
-- stop leaves nothing more
pub record IsOpened (old new : State) (register : List ℕ) (now : Seen) : Type 0 where
  pub idle : now.progress ≡ Idle
  pub failures : now.failures ≡ 0
  pub harm : now.unharmed → HasCleanDisk old
  pub rests : HasCleanDisk new → Rests old new
  pub stands : now.unharmed → IsKept old.now → now.stands
  pub content : now.unharmed → IsKept old.now → now.content ≡ content_in old.now empty_view
  pub of_register : now.unharmed → IsKept old.now → IsOf register (rows_of old.now meta)
  pub leaves : Survives old new (λ _. ⊥)
  pub whole : LeavesKept register old → now.whole

-- a connection was handed back outside a transaction, over what was there; and of a store that was
-- there a stop leaves what it could before
pub record IsRefused {S : Type 0} (g : Ghosts S) (before after : Held S) : Type 0 where
  pub over : after.in_transaction ≡ false
  -- where the disk is clean in the end, it was before
  pub trust : HasCleanDisk (state g after) → HasCleanDisk (state g before)
  pub rests : HasCleanDisk (state g after) → Rests (state g before) (state g after)
  pub leaves : HasTables (state g before).now
      → Survives (state g before) (state g after) (λ _. ⊥)

-- ---- what is answered, of a call that takes a connection and gives a store or hands it back

-- the answer alone
abbrev pub answer_of : {S R : Type 0} → {g : Ghosts S}
    → Result (Store S R g) (Held S × StoreRefusal) → Result (Unit {0}) StoreRefusal
answer_of (Ok store) = Ok tt
answer_of (Err back) = Err back.1

-- the connection, in the store or handed back
abbrev pub conn_of : {S R : Type 0} → {g : Ghosts S}
    → Result (Store S R g) (Held S × StoreRefusal) → Held S
conn_of (Ok store) = store.tables.conn
conn_of (Err back) = back.0
