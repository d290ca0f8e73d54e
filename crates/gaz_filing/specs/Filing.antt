-- What is done over a store's two files.
use Rattle.std.specs.Prelude.{◌≡◌, ◌≢◌, ◌↔◌, false, ℕ, List, Option, Some, None, Result}
use Rattle.std.specs.Prelude.{IsSomeAnd, IsTrue}
use Rattle.std.specs.declared.marker.Brand.{Brand}
use Rattle.sqlite.specs.Closing.{IsCopied, files_left}
use Rattle.sqlite.specs.Files.{FailsToClose, Finds, IsCleanLeft, IsClosed, IsOpened, LeavesFiles}
use Rattle.sqlite.specs.Files.{file_state, over_files}
use Rattle.sqlite.specs.Held.{Held}
use Rattle.sqlite.specs.State.{HasCleanDisk, IsLive}
use Rattle.sqlite.specs.declared.error.Error.{Error}
use Rattle.sqlite.specs.declared.file.Leftover.{Leftover}
use Rattle.sqlite_disk.specs.declared.Disk as disk
use Rattle.sqlite_disk.specs.declared.Files.{Files}
use Rattle.sqlite_store.specs.FileStore.{view}
use Rattle.sqlite_store.specs.declared.store.FileStore.{FileStore}
use Rattle.sqlite_trees.specs.View.{IsClean}
use Rattle.sqlite_wal.specs.Reads.{AreClean}
use Rattle.gaz_register.specs.Registers.{RegisterValue}
use Rattle.gaz_register.specs.Texts.{register_text}
use Rattle.gaz_tables.specs.Creating.{MayCreate}
use Rattle.gaz_kept.specs.Opening.{Untouched, has_any, schema_number}
use Rattle.gaz_kept.specs.declared.refusal.StoreRefusal.{StoreRefusal}
use Rattle.gaz_kept.specs.declared.refusal.StoreRefusal.TheVariants.{BadSchema, Fault}
use Rattle.gaz_kept.specs.declared.refusal.StoreRefusal.TheVariants.{OtherRegister}
use Rattle.gaz_calls.specs.declared.growing.ExtendFault.{ExtendFault}
use Rattle.gaz_store.specs.Opened.{IsMade, IsRefused}
use Rattle.gaz_store.specs.Store.{seen_in}
use Rattle.gaz_store.specs.declared.store.Store.{Store}
use Rattle.gaz_steps.specs.Step.{Command}
use Rattle.gaz_stored.specs.Extending.{ExtendsOpened}
use Rattle.gaz_stored.specs.Meetings.{Meeting}
use Rattle.gaz_stored.specs.Migrating.{LacksBoth, MigratesOpened, StopsMoving}
use Rattle.gaz_stored.specs.Using.{LacksStore, UsesOpened, seen_as}
use Rattle.gaz_stored.specs.Ways.{Asks, Attends, Way}
use Rattle.gaz_stored.specs.declared.attending.Unserved.{Unserved}
use Rattle.gaz_stored.specs.declared.migrating.Migration.{Migration}
use Rattle.gaz_commands.specs.declared.printed.PrintedLine.TheVariants.{Ready}
use Rattle.gaz_commands.specs.declared.said.Said.{Said}
use Rattle.gaz_commands.specs.declared.said.Said.TheVariants as said

-- Below, g is what is seen of a disk.
module _ {D : Type 0} (g : disk.Ghosts D) where
  -- a connection to the database in the files, outside a transaction
  pub record Connects (files : Files D) (conn : Held (FileStore D g)) : Type 0 where
    pub over : conn.in_transaction ≡ false
    pub opened : HasCleanDisk (file_state conn) → IsOpened conn
    pub found : HasCleanDisk (file_state conn) → Finds files conn

  -- none could be had, and these files are left: of them a stop leaves only what it could before,
  -- but where there was no database
  pub record FailsToConnect (files left : Files D) : Type 0 where
    pub rest : Leftover D g
    pub are : (left.log, left.db) ≡ files_left rest
    pub unharmed : IsCleanLeft rest → LeavesFiles files rest

  -- the files that are given back hold its last commit, or closing failed
  abbrev pub CopiesOrFails : Held (FileStore D g) → Option (Files D) → Type 0
  CopiesOrFails conn (Some files) = AreClean g files.log files.db → IsCopied conn files
  CopiesOrFails conn None = (last : FileStore D g) × ((e : Error) × (IsClosed conn last
      × (IsClean (view last) → FailsToClose conn last e)))

  -- a connection with nothing left to commit is closed, and these files are given back
  pub record Closes (conn : Held (FileStore D g)) (left : Option (Files D)) : Type 0 where
    pub live : IsLive (file_state conn)
    pub settled : IsTrue (file_state conn).is_open
        → (file_state conn).now ≡ (file_state conn).committed
    pub files : CopiesOrFails conn left

  -- a store of the register is made over a connection
  pub record Makes (register : RegisterValue) (conn after : Held (FileStore D g)) : Type 0 where
    -- no table named as one of a store's was there
    pub free : has_any (file_state conn).now.schema ≡ false
    pub store : Store (FileStore D g) Brand over_files
    pub made : IsMade (file_state conn) (file_state store.tables.conn) (register_text register)
        (seen_in (register_text register) store)
    pub back : store.tables.conn ≡ after

  -- ---- why there is no store, and the connection is handed back over what was there

  -- none was made of the register; a stop leaves what was there, or a new store whole
  pub record HasNoNewStore (register : RegisterValue) (refusal : StoreRefusal)
      (conn back : Held (FileStore D g)) : Type 0 where
    pub refused : IsRefused over_files conn back
    -- `BadSchema` just where a table named as one of a store's is there
    pub named : (refusal ≡ BadSchema) ↔ IsTrue (has_any (file_state conn).now.schema)
    -- and never that one is of another register
    pub causes : refusal ≢ OtherRegister
    -- where such a table is there nothing is written
    pub untouched : IsTrue (has_any (file_state conn).now.schema) → Untouched over_files conn back
    pub leaves : MayCreate over_files conn back schema_number (register_text register)

  -- none of either schema is there, for this reason, and this is what a stop leaves
  abbrev pub HasNeither : RegisterValue → StoreRefusal → Held (FileStore D g)
      → Held (FileStore D g) → Type 0
  HasNeither register refusal conn back =
      LacksBoth over_files register conn back refusal × StopsMoving over_files register conn back

  -- Below, the files are those that are given, and those that are given back.
  module _ (files : Files D) (left : Option (Files D)) where
    -- a connection was had, this was done over it, and it was closed
    pub record OverFiles (Does : Held (FileStore D g) → Held (FileStore D g) → Type 0)
        : Type 0 where
      pub conn : Held (FileStore D g)
      pub after : Held (FileStore D g)
      pub connects : Connects files conn
      pub does : Does conn after
      pub closes : Closes after left

    -- no connection was had, which is a fault; or one was handed back for this reason
    pub data Declines (refusal : StoreRefusal)
        (Why : Held (FileStore D g) → Held (FileStore D g) → Type 0) : Type 0 where
      NoConnection : refusal ≡ Fault → IsSomeAnd left (FailsToConnect files)
          → Declines refusal Why
      HandedBack : OverFiles Why → Declines refusal Why

    -- ---- a store is made

    abbrev pub MakesStore : RegisterValue → Said → Type 0
    MakesStore register answer = (answer ≡ said.Line Ready) × OverFiles (Makes register)

    abbrev pub MakesNone : RegisterValue → StoreRefusal → Type 0
    MakesNone register refusal = Declines refusal (HasNoNewStore register refusal)

    -- ---- the store that is there is used, by a hub of the register

    abbrev pub UsesStore : RegisterValue → Way (Store (FileStore D g) Brand over_files) → Type 0
    UsesStore register way = OverFiles (UsesOpened over_files register way)

    -- a call was answered
    abbrev pub AsksStore : RegisterValue → Result Command Said → Said → Type 0
    AsksStore register call answer = UsesStore register (Asks register call answer)

    -- so many connections were answered, or there was no port, or nobody was told of it; this came
    -- of them
    abbrev pub ServesStore : RegisterValue → ℕ → Result ℕ Unserved → List Meeting → Type 0
    ServesStore register most held met =
        UsesStore register (Attends (seen_as (register_text register)) register most held met)

    -- its register was to grow from one to another
    abbrev pub ExtendsStore : RegisterValue → RegisterValue → Result (Unit {0}) ExtendFault → Type 0
    ExtendsStore register grown told =
        OverFiles (λ conn after. ExtendsOpened over_files register grown conn after told)

    -- there is none of the register, and nothing is written
    abbrev pub OpensNone : RegisterValue → StoreRefusal → Type 0
    OpensNone register refusal = Declines refusal (LacksStore over_files register refusal)

    -- ---- it is migrated

    -- it was migrated, or was of schema 2 already; and this is what a stop leaves of it
    abbrev pub MigratesStore : RegisterValue → Migration → Type 0
    MigratesStore register told =
        OverFiles (λ conn after. MigratesOpened over_files register conn after told
        × StopsMoving over_files register conn after)

    -- there is none of either schema
    abbrev pub MigratesNone : RegisterValue → StoreRefusal → Type 0
    MigratesNone register refusal = Declines refusal (HasNeither register refusal)
