-- What a store's call tells where its register grows.
use Rattle.std.specs.Prelude.{◌≡◌, ◌≢◌, ◌⊎◌, ℕ, List, Some, Result, OnOk}
use Rattle.sqlite.specs.Effect.{Database}
use Rattle.sqlite.specs.State.{HasCleanDisk, State}
use Rattle.sqlite_trees.specs.Tree.{Trees}
use Rattle.gaz_register.specs.Registers.{RegisterValue}
use Rattle.gaz_register.specs.Texts.{register_text}
use Rattle.gaz_keeper.specs.Keeper.{Broken, Counts, IsLeft, IsSound, LeavesAtMost, LeavesJust, Seen}
use Rattle.gaz_sql_facts.specs.Changes.{AreTreesOf}
use Rattle.gaz_tables.specs.Schema.{meta}
use Rattle.gaz_tables.specs.Tables.{rows_of}
use Rattle.gaz_kept.specs.Kept.{IsKept}
use Rattle.gaz_kept.specs.Opening.{IsOf}
use Rattle.gaz_kept.specs.Rewriting.{Registers}
use Rattle.gaz_calls.specs.Altering.{Alters}
use Rattle.gaz_calls.specs.Growing.{as_kept}
use Rattle.gaz_calls.specs.declared.growing.ExtendFault.{ExtendFault}

-- the content stays as it is, whatever the answer; an Ok commits it again, and of a fault no more
-- is known than of one of a keeper's calls
pub record KeepsContent (old new : Seen) (result : Result (Unit {0}) ExtendFault) : Type 0 where
  pub harm : new.unharmed → old.unharmed
  pub stands : old.stands → new.unharmed → new.stands
  pub content : old.stands → new.unharmed → new.content ≡ old.content
  pub progress : IsLeft old.progress new.progress
  pub cleared : OnOk result (new.progress ≢ Broken)
  pub counts : Counts old new (as_kept result)
  pub leaves : IsSound old → LeavesAtMost (Some old.content) old new
  pub committed : IsSound old → OnOk result (LeavesJust (Some old.content) old new)
  pub whole : IsSound old → OnOk result new.whole

-- the tables of a database are those of a store of one of two registers
pub record IsKeptOfEither (one other : List ℕ) (db : Database) : Type 0 where
  pub kept : IsKept db
  pub whose : IsOf one (rows_of db meta) ⊎ IsOf other (rows_of db meta)

-- where a stop left a store of the one, it leaves a store of one of them
abbrev pub LeavesEither : Seen → State → List ℕ → List ℕ → Type 0
LeavesEither old now one other = IsSound old → old.whole → (trees : Trees) → HasCleanDisk now
    → now.may_leave trees → AreTreesOf (IsKeptOfEither one other) trees

-- the row of `meta` gets the text of the register and that is committed, or a fault changes nothing
abbrev pub WritesRegister : State → State → RegisterValue → Result (Unit {0}) ExtendFault → Type 0
WritesRegister old new grown result =
    Alters old new (as_kept result) (Registers (register_text grown))
