-- Which databases are taken as one of schema 1 of a register.
use Rattle.std.specs.Prelude.{◌≡◌, ◌&&◌, ℕ, Bool, not, true, List, codes, Result, IsTrue, OnOk}
use Rattle.std.specs.List.{list_any}
use Rattle.sqlite.specs.Held.{Held, state}
use Rattle.sqlite.specs.Order.{Row}
use Rattle.sqlite.specs.Schema.{Schema}
use Rattle.sqlite.specs.State.{State, HasCleanDisk, Survives}
use Rattle.sqlite_trees.specs.Tree.{Trees}
use Rattle.sqlite_trees.specs.declared.store.Store.{Ghosts}
use Rattle.gaz_sql_facts.specs.Changes.{AreTreesOf}
use Rattle.gaz_tables.specs.Migrating.{HasFirstTables, Migrates}
use Rattle.gaz_tables.specs.Schema.{meta, received, version}
use Rattle.gaz_tables.specs.Tables.{rows_of}
use Rattle.gaz_kept.specs.Numbered as numbered
use Rattle.gaz_kept.specs.Opening.{has_name, is_like, schema_number}
use Rattle.gaz_kept.specs.declared.refusal.StoreRefusal.{StoreRefusal}

-- each table of schema 1 is there and is understood, with its columns, and nothing is named
-- version2
unfoldable pub has_first : Schema → Bool
has_first schema =
    list_any (is_like version) schema.tables
    && (list_any (is_like received) schema.tables
    && (list_any (is_like meta) schema.tables && not (has_name (codes "version2") schema)))

-- the number of schema 1
abbrev pub first_number : ℕ
first_number = 1

-- the only row of `meta` is of this register
abbrev pub IsOfFirst : List ℕ → List Row → Type 0
IsOfFirst = numbered.IsOf first_number

-- what is told of the rows of `meta`, for a register
abbrev pub IsJudgedFirst : List ℕ → List Row → Result (Unit {0}) StoreRefusal → Type 0
IsJudgedFirst = numbered.IsJudged first_number

-- a call on a connection, whose state `g` shows
module _ {S : Type 0} (g : Ghosts S) (before after : Held S)
    (result : Result (Unit {0}) StoreRefusal) where
  abbrev old : State
  old = state g before

  abbrev new : State
  new = state g after

  -- what is told of the rows of `meta` where the tables are there, whatever they are
  abbrev pub TellsFirst : List ℕ → Type 0
  TellsFirst register = HasCleanDisk new → has_first old.now.schema ≡ true
      → numbered.TellsRows first_number g before register result

  -- what is told of the tables of schema 1
  abbrev pub JudgesFirst : List ℕ → Type 0
  JudgesFirst register = HasCleanDisk new → HasFirstTables old.now
      → IsJudgedFirst register (rows_of old.now meta) result

  -- the database of schema 1 becomes one of schema 2 of the register, and that is committed
  abbrev pub Moves : List ℕ → Type 0
  Moves register = HasCleanDisk new → HasFirstTables old.now → OnOk result
      (Migrates schema_number register old.now new.now × (new.committed ≡ new.now))

  -- where it is of an open connection, the trees are those of the database of schema 2
  abbrev pub AreMoved : List ℕ → Trees → Type 0
  AreMoved register trees =
      IsTrue old.is_open × AreTreesOf (Migrates schema_number register old.now) trees

  -- a stop leaves what it could before, or the database of schema 2
  abbrev pub MayMove : List ℕ → Type 0
  MayMove register = (HasCleanDisk old → IsTrue old.is_open → HasFirstTables old.now)
      → Survives old new (AreMoved register)
