-- What is told of the rows of `meta`, by the number of a schema and the text of a register.
use Rattle.std.specs.Prelude.{◌≡◌, ◌≢◌, ◌⊎◌, ⊤, ℕ, pos, List, [], ◌∷◌, Result, Ok, Err, IfOk}
use Rattle.std.specs.Prelude.{Vec, true}
use Rattle.std.specs.declared.alloc.Global.{Global}
use Rattle.sqlite.specs.declared.error.Error.{Error}
use Rattle.sqlite.specs.Effect.{Database}
use Rattle.sqlite.specs.Held.{Held, state}
use Rattle.sqlite.specs.Order.{Row, column}
use Rattle.sqlite.specs.State.{HasCleanDisk, Shown}
use Rattle.sqlite.specs.declared.types.Value.TheVariants.{Int, Text}
use Rattle.sqlite_trees.specs.declared.store.Store.{Ghosts}
use Rattle.gaz_tables.specs.Metas.{FindsTwo, id_of, number_of, register_of, rows_text}
use Rattle.gaz_tables.specs.Migrating.{HasFirstTables}
use Rattle.gaz_tables.specs.Schema.{meta}
use Rattle.gaz_tables.specs.Stores.{HasTables}
use Rattle.gaz_tables.specs.Tables.{rows_of}
use Rattle.gaz_kept.specs.declared.refusal.StoreRefusal.{StoreRefusal}
use Rattle.gaz_kept.specs.declared.refusal.StoreRefusal.TheVariants.{BadSchema, Fault}
use Rattle.gaz_kept.specs.declared.refusal.StoreRefusal.TheVariants.{OtherRegister}

-- the tables are those of schema 2, or those of schema 1
abbrev pub HasMeta : Database → Type 0
HasMeta db = HasTables db ⊎ HasFirstTables db

-- the answer is of at most two of the rows of `meta`
abbrev pub FindsMeta : {S : Type 0} → Ghosts S → Held S → Held S → Result (Vec Row Global) Error
    → Type 0
FindsMeta g before after result =
    HasCleanDisk (state g after) → HasMeta (state g before).now
    → IfOk result (λ rows. FindsTwo (rows_of (state g before).now meta) rows.items)

-- what SQL answers, within a transaction of its own, where it is asked for the rows of `meta`
abbrev pub IsAnswer : {S : Type 0} → Ghosts S → Held S → List Row → Type 0
IsAnswer {S} g before shown = (after : Held S)
    × Shown rows_text [] (state g (record before { in_transaction = true })) (state g after) shown

module _ (number : ℕ) where
  -- it is the only one, of id 1 and this number
  pub record IsNumbered (r : Row) (rows : List Row) : Type 0 where
    pub only : rows ≡ r ∷ []
    pub id : id_of r ≡ Int (pos 1)
    pub number_is : number_of r ≡ Int (pos number)

  -- it has this register's text
  abbrev pub IsOf : List ℕ → List Row → Type 0
  IsOf register rows = (r : Row) × IsNumbered r rows × (register_of r ≡ Text register)

  -- it has another text
  abbrev pub IsOfAnother : List ℕ → List Row → Type 0
  IsOfAnother register rows = (r : Row) × IsNumbered r rows × (register_of r ≢ Text register)

  -- what is told of the rows of `meta`, for a register
  abbrev pub IsJudged : List ℕ → List Row → Result (Unit {0}) StoreRefusal → Type 0
  IsJudged register rows (Ok done) = IsOf register rows
  IsJudged register rows (Err OtherRegister) = IsOfAnother register rows
  IsJudged register rows (Err BadSchema) = (r : Row) → ¬ IsNumbered r rows
  IsJudged register rows (Err Fault) = ⊤

  -- only one is shown, of id 1 and this number
  pub record IsOne (x : Row) (shown : List Row) : Type 0 where
    pub only : shown ≡ x ∷ []
    pub id : column x 0 ≡ Int (pos 1)
    pub number_is : column x 1 ≡ Int (pos number)

  -- what is told of id, number and register of at most two of its rows
  abbrev pub IsTold : List ℕ → List Row → Result (Unit {0}) StoreRefusal → Type 0
  IsTold register shown (Ok done) = (x : Row) × IsOne x shown × (column x 2 ≡ Text register)
  IsTold register shown (Err OtherRegister) =
      (x : Row) × IsOne x shown × (column x 2 ≢ Text register)
  IsTold register shown (Err BadSchema) = (x : Row) → ¬ IsOne x shown
  IsTold register shown (Err Fault) = ⊥

  -- that it was told of what was shown
  abbrev pub ToldRows : {S : Type 0} → Ghosts S → Held S → List ℕ
      → Result (Unit {0}) StoreRefusal → Type 0
  ToldRows g before register told =
      (shown : List Row) × IsAnswer g before shown × IsTold register shown told

  -- or that there was a fault
  abbrev pub TellsRows : {S : Type 0} → Ghosts S → Held S → List ℕ
      → Result (Unit {0}) StoreRefusal → Type 0
  TellsRows g before register result =
      (result ≡ Err Fault) ⊎ ToldRows g before register result

  -- what is told of the tables of schema 2 or of schema 1
  abbrev pub JudgesMeta : {S : Type 0} → Ghosts S → Held S → Held S → List ℕ
      → Result (Unit {0}) StoreRefusal → Type 0
  JudgesMeta g before after register result =
      HasCleanDisk (state g after) → HasMeta (state g before).now
      → IsJudged register (rows_of (state g before).now meta) result

  -- the same, where they are read
  abbrev pub JudgesRead : {S : Type 0} → Ghosts S → Held S → Held S → List ℕ
      → Result (Result (Unit {0}) StoreRefusal) Error → Type 0
  JudgesRead g before after register result =
      HasCleanDisk (state g after) → HasMeta (state g before).now
      → IfOk result (IsJudged register (rows_of (state g before).now meta))
