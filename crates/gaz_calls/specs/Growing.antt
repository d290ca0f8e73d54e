-- What is told where a store's register grows.
use Rattle.std.specs.Prelude.{◌≡◌, ◌≢◌, ◌↔◌, ⊤, ℕ, Bool, List, Result, Ok, Err, IfOk}
use Rattle.std.specs.Prelude.{IsTrue}
use Rattle.sqlite.specs.Held.{Held, state}
use Rattle.sqlite.specs.State.{HasCleanDisk, Survives}
use Rattle.sqlite_trees.specs.declared.store.Store.{Ghosts}
use Rattle.gaz_register.specs.Growing.{Extends, growth_of}
use Rattle.gaz_register.specs.Registers.{RegisterValue}
use Rattle.gaz_register.specs.Texts.{register_text}
use Rattle.gaz_register.specs.declared.growth.GrowFault.{GrowFault}
use Rattle.gaz_register.specs.declared.growth.GrowFault.TheVariants as growth
use Rattle.gaz_keeper.specs.declared.fault.ShelfFault.{ShelfFault}
use Rattle.gaz_keeper.specs.declared.fault.ShelfFault.TheVariants as shelf
use Rattle.gaz_tables.specs.Schema.{meta}
use Rattle.gaz_tables.specs.Stores.{HasTables}
use Rattle.gaz_tables.specs.Tables.{rows_of}
use Rattle.gaz_kept.specs.Opening.{IsOf}
use Rattle.gaz_calls.specs.Seen.{IsUnharmed}
use Rattle.gaz_calls.specs.declared.growing.ExtendFault.{ExtendFault}
use Rattle.gaz_calls.specs.declared.growing.ExtendFault.TheVariants.{OtherRegister}
use Rattle.gaz_calls.specs.declared.growing.ExtendFault.TheVariants.{RemovedCustodian}
use Rattle.gaz_calls.specs.declared.growing.ExtendFault.TheVariants.{ChangedBlocks, Fault, Memory}

-- ---- faults

-- a fault of a keeper
abbrev pub of_keeper : ShelfFault → ExtendFault
of_keeper shelf.Memory = Memory
of_keeper shelf.Store = Fault

-- why a register is no growth of another
abbrev pub of_growth : GrowFault → ExtendFault
of_growth growth.RemovedCustodian = RemovedCustodian
of_growth growth.ChangedBlocks = ChangedBlocks

-- the fault of an extension as a keeper tells it: a failure is `Store`, and every other fault
-- changes nothing as a want of memory does
abbrev pub as_keeper : ExtendFault → ShelfFault
as_keeper OtherRegister = shelf.Memory
as_keeper RemovedCustodian = shelf.Memory
as_keeper ChangedBlocks = shelf.Memory
as_keeper Fault = shelf.Store
as_keeper Memory = shelf.Memory

abbrev pub as_kept : Result (Unit {0}) ExtendFault → Result (Unit {0}) ShelfFault
as_kept (Ok done) = Ok done
as_kept (Err fault) = Err (as_keeper fault)

-- ---- what is told

-- the register that a store of the old one is of then
abbrev pub register_then : RegisterValue → RegisterValue → Result (Unit {0}) ExtendFault
    → RegisterValue
register_then old grown (Ok done) = grown
register_then old grown (Err _) = old

-- an Ok is told of a growth alone, and a refusal of none just as its registers are
abbrev pub TellsGrowth : RegisterValue → RegisterValue → Result (Unit {0}) ExtendFault → Type 0
TellsGrowth old grown (Ok done) = Extends old grown
TellsGrowth old grown (Err OtherRegister) = ⊤
TellsGrowth old grown (Err RemovedCustodian) = growth_of old grown ≡ Err growth.RemovedCustodian
TellsGrowth old grown (Err ChangedBlocks) = growth_of old grown ≡ Err growth.ChangedBlocks
TellsGrowth old grown (Err Fault) = ⊤
TellsGrowth old grown (Err Memory) = ⊤

module _ {S : Type 0} (g : Ghosts S) (before after : Held S) where
  -- where the one register is no growth of the other, nothing is written
  abbrev pub SparesUngrown : RegisterValue → RegisterValue → Type 0
  SparesUngrown old grown = (growth_of old grown ≢ Ok tt)
      → (IsUnharmed (state g before) → HasTables (state g before).now)
      → Survives (state g before) (state g after) (λ _. ⊥)

  -- the only row of `meta` was of this register
  abbrev pub WasOf : RegisterValue → Type 0
  WasOf register = IsOf (register_text register) (rows_of (state g before).now meta)

  -- the only row of `meta` is of this register
  abbrev pub NowOf : RegisterValue → Type 0
  NowOf register = IsOf (register_text register) (rows_of (state g after).now meta)

  -- whether it was of this text, as it is told
  abbrev pub TellsWhose : List ℕ → Result Bool ShelfFault → Type 0
  TellsWhose register result = HasCleanDisk (state g after) → HasTables (state g before).now
      → IfOk result (λ b. IsTrue b ↔ IsOf register (rows_of (state g before).now meta))

  -- `OtherRegister` where it wasn't of the old register, before anything is looked for; then it is
  -- of the grown one just where that is told
  abbrev pub ToldOf : RegisterValue → RegisterValue → Result (Unit {0}) ExtendFault → Type 0
  ToldOf old grown (Ok done) = WasOf old × NowOf grown
  ToldOf old grown (Err OtherRegister) = ¬ WasOf old
  ToldOf old grown (Err RemovedCustodian) = WasOf old
  ToldOf old grown (Err ChangedBlocks) = WasOf old
  ToldOf old grown (Err Fault) = ⊤
  ToldOf old grown (Err Memory) = ⊤

  -- so it is of a store's tables, on a disk that returned what was written
  abbrev pub TellsRegisters : RegisterValue → RegisterValue → Result (Unit {0}) ExtendFault → Type 0
  TellsRegisters old grown result =
      HasCleanDisk (state g after) → HasTables (state g before).now → ToldOf old grown result
