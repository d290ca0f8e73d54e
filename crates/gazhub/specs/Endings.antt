-- The exit statuses, and the lines that name faults.
use Rattle.std.specs.Prelude.{ℕ, Bool, true, false, List, [], codes}
use Rattle.gaz_commands.specs.Saying.{error_line}
use Rattle.gazhub.specs.declared.files.NoHub.{NoHub as WhyNoHub}
use Rattle.gazhub.specs.declared.files.NoHub.TheVariants as none
use Rattle.gaz_kept.specs.declared.refusal.StoreRefusal.{StoreRefusal}
use Rattle.gaz_kept.specs.declared.refusal.StoreRefusal.TheVariants as refusal
use Rattle.gaz_register.specs.declared.fault.RegFault.{RegFault}
use Rattle.gaz_register.specs.declared.fault.RegFault.TheVariants as fault
use Rattle.gazhub.specs.declared.ending.Ending.{Ending}
use Rattle.gazhub.specs.declared.ending.Ending.TheVariants as ending

-- the exit status
abbrev pub status_of : Ending → ℕ
status_of ending.Done = 0
status_of ending.NotDone = 1
status_of ending.Usage = 2
status_of _ = 3

-- the line that names the fault of a register
abbrev pub register_line : RegFault → List ℕ
register_line fault.NotToml = codes "gazhub: NotToml\n"
register_line fault.Shape = codes "gazhub: Shape\n"
register_line fault.TooMany = codes "gazhub: TooMany\n"
register_line fault.BadCode = codes "gazhub: BadCode\n"
register_line fault.BadName = codes "gazhub: BadName\n"
register_line fault.BadBlock = codes "gazhub: BadBlock\n"
register_line fault.SameCode = codes "gazhub: SameCode\n"
register_line fault.Overlap = codes "gazhub: Overlap\n"
register_line fault.Memory = codes "gazhub: Memory\n"

-- the line that says why there is no store
abbrev pub refusal_line : StoreRefusal → List ℕ
refusal_line refusal.BadSchema = codes "gazhub: BadSchema\n"
refusal_line refusal.OtherRegister = codes "gazhub: OtherRegister\n"
refusal_line refusal.Fault = codes "gazhub: Fault\n"

-- the line that says why there is no hub
abbrev pub no_hub_line : WhyNoHub → List ℕ
no_hub_line none.Unreadable = codes "gazhub: Unreadable\n"
no_hub_line (none.Register why) = register_line why
no_hub_line (none.Store why) = refusal_line why
no_hub_line none.NoPort = codes "gazhub: NoPort\n"
no_hub_line none.Memory = codes "gazhub: Memory\n"

-- the line on standard error, which names the fault, where there is one
abbrev pub line_of : Ending → List ℕ
line_of ending.Memory = codes "gazhub: Memory\n"
line_of ending.ReadFault = codes "gazhub: ReadFault\n"
line_of ending.WriteFault = codes "gazhub: WriteFault\n"
line_of (ending.NoHub why) = no_hub_line why
line_of (ending.Lost why) = no_hub_line why
line_of (ending.Failed why) = error_line why
line_of _ = []

-- where a command over a store ends so, or words that mean no command, nothing was printed on
-- standard output: at usage, and at each fault but that of the output and that of a hub that was
-- lost. A conversation may have replied before its fault
abbrev pub is_silent : Ending → Bool
is_silent ending.Done = false
is_silent ending.NotDone = false
is_silent ending.WriteFault = false
is_silent (ending.Lost why) = false
is_silent _ = true
