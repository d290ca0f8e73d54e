-- Calls over the same files, one after another, each under a register of its own, of which each
-- ends whole or is cut off by a stop.
use Rattle.std.specs.Prelude.{◌≡◌, ⊤, List, [], ◌∷◌, map, Option, Some}
use Rattle.sqlite.specs.Effect.{Database}
use Rattle.sqlite.specs.Files.{file_state, over_files}
use Rattle.sqlite.specs.Held.{Held}
use Rattle.sqlite.specs.State.{HasCleanDisk}
use Rattle.sqlite_disk.specs.declared.Disk as disk
use Rattle.sqlite_disk.specs.declared.Files.{Files}
use Rattle.sqlite_store.specs.declared.store.FileStore.{FileStore}
use Rattle.gaz_register.specs.Registers.{IsRegister, RegisterValue}
use Rattle.gaz_tables.specs.Creating.{HasRoom}
use Rattle.gaz_tables.specs.Stores.{HasTables}
use Rattle.gaz_kept.specs.declared.refusal.StoreRefusal.{StoreRefusal}
use Rattle.gaz_kept.specs.declared.refusal.StoreRefusal.TheVariants.{Fault}
use Rattle.gaz_steps.specs.Step.{new_hub}
use Rattle.gaz_stored.specs.Calls.{AreOneRun, Call, CameTo, CutOff, IsFoundAfter, Whole}
use Rattle.gaz_stored.specs.Reopening.{HasStoreOf, OpensThen}
use Rattle.gaz_stored.specs.Runs.{GoesOn, IsStoreOf}
use Rattle.gaz_stored.specs.Using.{LacksStore}
use Rattle.gaz_filing.specs.Filing.{Closes, Connects, HasNeither, Makes, OverFiles}

module _ {D : Type 0} (g : disk.Ghosts D) where
  -- what was done over a connection is said otherwise
  abbrev pub said_as : {files : Files D} {left : Option (Files D)}
      {Does Is : Held (FileStore D g) → Held (FileStore D g) → Type 0}
      → ((conn after : Held (FileStore D g)) → Does conn after → Is conn after)
      → OverFiles g files left Does → OverFiles g files left Is
  said_as so over = record {
    conn = over.conn;
    after = over.after;
    connects = over.connects;
    does = so over.conn over.after over.does;
    closes = over.closes;
  }

  -- a call over files that it was given and those that it gave back, what it came to, and what is
  -- found after it
  pub record FileCall : Type 0 where
    pub files : Files D
    pub left : Option (Files D)
    pub over : OverFiles g files left (CameTo over_files)
    pub found : Database
    pub is_found : IsFoundAfter over_files over.conn over.after found

  -- a call that no stop cut off
  abbrev pub IsWhole : {before after : Held (FileStore D g)} {found : Database}
      → IsFoundAfter over_files before after found → Type 0
  IsWhole (Whole fine same) = ⊤
  IsWhole (CutOff itself may) = ⊥

  abbrev pub EndedWhole : FileCall → Type 0
  EndedWhole call = IsWhole call.is_found

  abbrev pub call_over : FileCall → Call (over_files {D = D} {g = g})
  call_over it = record {
    before = it.over.conn;
    after = it.over.after;
    came = it.over.does;
    found = it.found;
    is_found = it.is_found;
  }

  -- it was given these files
  abbrev pub IsGiven : FileCall → Option (Files D) → Type 0
  IsGiven next left = left ≡ Some next.files

  -- the next call was given the files that this one gave back; or it shows what a stop left of it
  abbrev pub IsPassedOn : {before after : Held (FileStore D g)} {found : Database}
      → IsFoundAfter over_files before after found → Option (Files D) → FileCall → Type 0
  IsPassedOn (Whole fine same) left next = IsGiven next left
  IsPassedOn {before} {after} {found} (CutOff itself may) left next =
      (file_state next.over.conn).now ≡ found

  -- and so on from this one
  abbrev pub FollowOn : FileCall → List FileCall → Type 0
  FollowOn call [] = ⊤
  FollowOn call (next ∷ later) = IsPassedOn call.is_found call.left next × FollowOn next later

  -- from what a database stands for they are one run of one hub, over registers of which each
  -- extends the one before
  abbrev pub AreOne : RegisterValue → Database → List FileCall → Type 0
  AreOne register db calls = AreOneRun over_files register db (map call_over calls)

  -- calls over the same files are one run, from a store that is there or behind one that was made
  -- or migrated
  pub record CallsAreOne : Type 0 where
    -- over the store that the first of them finds
    pub opened : (register : RegisterValue) (first : FileCall) (later : List FileCall)
        → IsRegister register → IsStoreOf register (file_state first.over.conn).now
        → FollowOn first later
        → AreOne register (file_state first.over.conn).now (first ∷ later)
    -- behind a connection that was closed over a store, as over one that was just made or migrated
    pub behind : (register : RegisterValue) (old : Held (FileStore D g)) (left : Option (Files D))
        (first : FileCall) (later : List FileCall)
        → IsRegister register → IsStoreOf register (file_state old).now
        → Closes g old left → IsGiven first left
        → FollowOn first later → AreOne register (file_state old).now (first ∷ later)
    -- where one is made and there was room, it is a store of its register that was asked nothing
    pub made : (register : RegisterValue) (conn after : Held (FileStore D g))
        → Makes g register conn after → HasRoom (file_state conn).now.schema
        → HasCleanDisk (file_state after) → GoesOn register new_hub [] [] (file_state after).now
    -- and none is made where a store's tables are there
    pub not_made : (register : RegisterValue) (conn after : Held (FileStore D g))
        → Makes g register conn after → ¬ HasTables (file_state conn).now

  -- over the files that were given back of a store, under its register
  pub record NextOpens : Type 0 where
    -- whoever opens them is told Ok or Fault
    pub opens : (register : RegisterValue) (old conn next : Held (FileStore D g)) (files : Files D)
        → HasStoreOf register (file_state old).now → Closes g old (Some files)
        → Connects g files conn → HasCleanDisk (file_state conn)
        → OpensThen over_files register conn next
    -- a call tells that there is none just for a fault
    pub lacks : (register : RegisterValue) (old : Held (FileStore D g)) (files : Files D)
        (left : Option (Files D)) (refusal : StoreRefusal)
        → HasStoreOf register (file_state old).now → Closes g old (Some files)
        → (over : OverFiles g files left (LacksStore over_files register refusal))
        → HasCleanDisk (file_state over.after) → refusal ≡ Fault
    -- and so does a migration
    pub migrates : (register : RegisterValue) (old : Held (FileStore D g)) (files : Files D)
        (left : Option (Files D)) (refusal : StoreRefusal)
        → HasStoreOf register (file_state old).now → Closes g old (Some files)
        → (over : OverFiles g files left (HasNeither g register refusal))
        → HasCleanDisk (file_state over.after) → refusal ≡ Fault
