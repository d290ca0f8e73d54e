-- What is said where a store's register was to grow, or a store to be migrated.
use Rattle.std.specs.Prelude.{Result, Ok, Err}
use Rattle.gaz_register.specs.declared.growth.GrowFault.TheVariants as growth
use Rattle.gaz_kept.specs.declared.refusal.StoreRefusal.{StoreRefusal}
use Rattle.gaz_kept.specs.declared.refusal.StoreRefusal.TheVariants as refusal
use Rattle.gaz_calls.specs.declared.growing.ExtendFault.{ExtendFault}
use Rattle.gaz_calls.specs.declared.growing.ExtendFault.TheVariants as fault
use Rattle.gaz_stored.specs.declared.migrating.Migration.{Migration}
use Rattle.gaz_stored.specs.declared.migrating.Migration.TheVariants as migration
use Rattle.gaz_commands.specs.declared.printed.PrintedLine.TheVariants as printed
use Rattle.gaz_commands.specs.declared.said.Said.{Said}
use Rattle.gaz_commands.specs.declared.said.Said.TheVariants as said
use Rattle.gazhub.specs.declared.files.NoHub.{NoHub}
use Rattle.gazhub.specs.declared.files.NoHub.TheVariants as none

-- that the other register is no growth is printed, the others are faults
abbrev pub not_extended : ExtendFault → Result Said NoHub
not_extended fault.RemovedCustodian = Ok (said.Line (printed.NotExtended growth.RemovedCustodian))
not_extended fault.ChangedBlocks = Ok (said.Line (printed.NotExtended growth.ChangedBlocks))
not_extended fault.OtherRegister = Err (none.Store refusal.OtherRegister)
not_extended fault.Fault = Err (none.Store refusal.Fault)
not_extended fault.Memory = Err none.Memory

-- what is said of its register, where there is a store
abbrev pub said_of_growth : Result (Result (Unit {0}) ExtendFault) StoreRefusal → Result Said NoHub
said_of_growth (Ok (Ok done)) = Ok (said.Line printed.Extended)
said_of_growth (Ok (Err why)) = not_extended why
said_of_growth (Err why) = Err (none.Store why)

-- what is said of a store that was to be migrated, or why there is none
abbrev pub said_of_migration : Result Migration StoreRefusal → Result Said NoHub
said_of_migration (Ok migration.Done) = Ok (said.Line printed.Migrated)
said_of_migration (Ok migration.Current) = Ok (said.Line printed.Current)
said_of_migration (Err why) = Err (none.Store why)
