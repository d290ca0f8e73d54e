-- Which databases are taken as a store of a register, and which become one.
use Rattle.std.specs.Prelude.{◌≡◌, ◌⊎◌, ◌↔◌, ◌&&◌, ◌||◌, ℕ, Bool, true, false}
use Rattle.std.specs.Prelude.{List, codes, map, Option, None, Some}
use Rattle.std.specs.Prelude.{Result, IfErr, IfOk, OnErr, OnOk, IsTrue}
use Rattle.std.specs.List.{list_all, list_any}
use Rattle.sqlite.specs.Effect.{Database}
use Rattle.sqlite.specs.Held.{Held, state}
use Rattle.sqlite.specs.Order.{Row}
use Rattle.sqlite.specs.Schema.{Schema}
use Rattle.sqlite.specs.State.{State, HasCleanDisk, Survives}
use Rattle.sqlite.specs.Table.{Table}
use Rattle.sqlite_schema.specs.Names.{same_name}
use Rattle.sqlite_trees.specs.declared.store.Store.{Ghosts}
use Rattle.gaz_sql_facts.specs.Reasons.{IsHindered}
use Rattle.gaz_tables.specs.Creating.{HasRoom, IsNewStore}
use Rattle.gaz_tables.specs.Schema.{meta, received, version, version2}
use Rattle.gaz_tables.specs.Stores.{HasTables}
use Rattle.gaz_tables.specs.Tables.{rows_of}
use Rattle.gaz_kept.specs.Numbered as numbered
use Rattle.gaz_kept.specs.declared.refusal.StoreRefusal.{StoreRefusal}
use Rattle.gaz_kept.specs.declared.refusal.Unread.{Unread}
use Rattle.gaz_kept.specs.declared.refusal.Unread.TheVariants.{Memory}

-- ---- tables, by their names, which are the same but for the case of ASCII letters

-- the name is that of the table with which something is kept aside
abbrev pub is_owner : List ℕ → Option (List ℕ) → Bool
is_owner name None = false
is_owner name (Some owner) = same_name owner name

-- a table of this name is there, understood or kept aside
abbrev pub has_name : List ℕ → Schema → Bool
has_name name schema =
    list_any (λ t. same_name t.name name) schema.tables
    || list_any (λ v. is_owner name v.foreign) schema.views

-- a table with the name of one of a store's is there
unfoldable pub has_any : Schema → Bool
has_any schema =
    has_name (codes "version") schema
    || (has_name (codes "version2") schema
    || (has_name (codes "received") schema || has_name (codes "meta") schema))

-- a table has a column of this name
abbrev pub has_column : Table → List ℕ → Bool
has_column t name = list_any (λ c. same_name c.name name) t.columns

-- a table has the name and the columns of this one
abbrev pub is_like : Table → Table → Bool
is_like like t =
    same_name t.name like.name && list_all (has_column t) (map (λ c. c.name) like.columns)

-- each table of a store is there and is understood, with its columns, and so is `version`
unfoldable pub has_all : Schema → Bool
has_all schema =
    list_any (is_like version) schema.tables
    && (list_any (is_like version2) schema.tables
    && (list_any (is_like received) schema.tables && list_any (is_like meta) schema.tables))

-- ---- the row of `meta`

-- the number of the schema of a store
abbrev pub schema_number : ℕ
schema_number = 2

-- the only row is of this register
abbrev pub IsOf : List ℕ → List Row → Type 0
IsOf = numbered.IsOf schema_number

-- what is told of the rows of `meta`, for a register
abbrev pub IsJudged : List ℕ → List Row → Result (Unit {0}) StoreRefusal → Type 0
IsJudged = numbered.IsJudged schema_number

-- a new store is one of its register
abbrev pub CreateOpens : Type 0
CreateOpens = (register : List ℕ) (old db : Database)
    → IsNewStore schema_number register old db → IsOf register (rows_of db meta)

-- ---- a call on a connection, whose state `g` shows

-- where the connection is open it was before, and it shows and has committed what it did
pub record Rests (old new : State) : Type 0 where
  pub was_open : IsTrue new.is_open → IsTrue old.is_open
  pub now : IsTrue new.is_open → new.now ≡ old.now
  pub committed : IsTrue new.is_open → new.committed ≡ old.committed

-- nothing is changed, whatever the answer, and a stop leaves what it could before
pub record Untouched {S : Type 0} (g : Ghosts S) (before after : Held S) : Type 0 where
  pub rests : HasCleanDisk (state g after) → Rests (state g before) (state g after)
  pub leaves : Survives (state g before) (state g after) (λ _. ⊥)

-- outside a transaction it shows what was committed
abbrev pub IsSettled : State → Type 0
IsSettled s = IsTrue s.is_open → s.now ≡ s.committed

module _ {S A E : Type 0} (g : Ghosts S) (before after : Held S) (result : Result A E) where
  -- an Ok tells that the connection was open
  abbrev pub WasOpen : Type 0
  WasOpen = HasCleanDisk (state g after) → OnOk result (IsTrue (state g before).is_open)

  -- it tells that it was open and is
  abbrev pub IsOpen : Type 0
  IsOpen = HasCleanDisk (state g after)
      → OnOk result (IsTrue (state g before).is_open × IsTrue (state g after).is_open)

-- whether a store's tables are those of a register, as it is told
abbrev pub TellsWhether : {S : Type 0} → Ghosts S → Held S → Held S → List ℕ
    → Result Bool Unread → Type 0
TellsWhether g before after register result =
    HasCleanDisk (state g after) → HasTables (state g before).now
    → IfOk result (λ own. IsTrue own ↔ IsOf register (rows_of (state g before).now meta))

-- where it isn't told of a store's tables, memory was lacking, or what was asked was hindered
abbrev pub UnreadByOthers : {S : Type 0} → Ghosts S → Held S → Held S → Result Bool Unread → Type 0
UnreadByOthers g before after result =
    HasCleanDisk (state g after) → HasTables (state g before).now
    → IfErr result (λ why. (why ≡ Memory) ⊎ IsHindered (state g before) (state g after))

module _ {S : Type 0} (g : Ghosts S) (before after : Held S)
    (result : Result (Unit {0}) StoreRefusal) where
  abbrev old : State
  old = state g before

  abbrev new : State
  new = state g after

  -- a refusal leaves the database as it was
  abbrev pub RestsRefused : Type 0
  RestsRefused = HasCleanDisk new → OnErr result (Rests old new)

  -- a database that has room becomes a new store of the register, with all that was there beside
  -- it, and is committed
  abbrev pub Makes : List ℕ → Type 0
  Makes register = HasCleanDisk new → HasRoom old.now.schema
      → OnOk result (IsNewStore schema_number register old.now new.now
      × (new.committed ≡ new.now))

  -- what is told of the rows of `meta` where the tables are there, whatever they are
  abbrev pub Tells : List ℕ → Type 0
  Tells register = HasCleanDisk new → has_all old.now.schema ≡ true
      → numbered.TellsRows schema_number g before register result

  -- what is told of a store's tables
  abbrev pub Judges : List ℕ → Type 0
  Judges register = HasCleanDisk new → HasTables old.now
      → IsJudged register (rows_of old.now meta) result
