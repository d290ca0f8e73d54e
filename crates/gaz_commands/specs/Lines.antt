-- The lines that commands print, and whether what was asked for was done.
use Rattle.std.specs.Prelude.{ℕ, Bool, true, false, List, ◌++◌, codes, Option, Some, None}
use Rattle.std.specs.Fmt.{decimal}
use Rattle.hex.specs.Hex.{encode_lower}
use Rattle.gaz_steps.specs.DoorNumbers.{door_number}
use Rattle.gaz_steps.specs.declared.outcome.Outcome.{Outcome}
use Rattle.gaz_steps.specs.declared.outcome.Outcome.TheVariants.{Applied, Rejected, Held}
use Rattle.gaz_steps.specs.declared.standing.Standing.{Standing}
use Rattle.gaz_register.specs.declared.growth.GrowFault.{GrowFault}
use Rattle.gaz_register.specs.declared.growth.GrowFault.TheVariants.{RemovedCustodian}
use Rattle.gaz_register.specs.declared.growth.GrowFault.TheVariants.{ChangedBlocks}
use Rattle.gaz_commands.specs.declared.printed.PrintedLine.{PrintedLine}
use Rattle.gaz_commands.specs.declared.printed.PrintedLine.TheVariants.{Ready, New, Repeat, Taken}
use Rattle.gaz_commands.specs.declared.printed.PrintedLine.TheVariants.{Stands, Address, Nothing}
use Rattle.gaz_commands.specs.declared.printed.PrintedLine.TheVariants.{Refused, Extended}
use Rattle.gaz_commands.specs.declared.printed.PrintedLine.TheVariants.{NotExtended, Migrated}
use Rattle.gaz_commands.specs.declared.printed.PrintedLine.TheVariants.{Current}

-- the number that is told where a register is no growth of another
abbrev pub growth_number : GrowFault → ℕ
growth_number RemovedCustodian = 61
growth_number ChangedBlocks = 62

-- a custodian's volume, as 1001/2
abbrev pub pair_text : ℕ → ℕ → List ℕ
pair_text custodian volume = decimal custodian ++ (codes "/" ++ decimal volume)

-- what a next volume waits for, - where it waits for nothing
abbrev pub wanted_text : Option (ℕ × ℕ) → List ℕ
wanted_text None = codes "-"
wanted_text (Some want) = pair_text want.0 want.1

-- what became of a file
abbrev pub became_text : Outcome → List ℕ
became_text Applied = codes "applied"
became_text (Rejected place rule) =
    codes "rejected record " ++ (decimal place ++ (codes " rule " ++ decimal rule))
became_text (Held custodian volume) = codes "held wants " ++ pair_text custodian volume

-- how far a custodian's files are judged
abbrev pub standing_text : Standing → List ℕ
standing_text s =
    codes "custodian " ++ (decimal s.custodian
    ++ (codes " judged " ++ (decimal s.judged
    ++ (codes " held " ++ (decimal s.held
    ++ (codes " wants " ++ wanted_text s.wants))))))

-- a line, without its end
abbrev pub line_text : PrintedLine → List ℕ
line_text Ready = codes "ready"
line_text Extended = codes "extended"
line_text (NotExtended why) = codes "refused " ++ decimal (growth_number why)
line_text Migrated = codes "migrated"
line_text Current = codes "current"
line_text (New outcome) = codes "new " ++ became_text outcome
line_text (Repeat outcome) = codes "repeat " ++ became_text outcome
line_text (Taken digest) = codes "taken " ++ encode_lower digest
line_text (Stands standing) = standing_text standing
line_text (Address line) = line
line_text Nothing = codes "none"
line_text (Refused refusal) = codes "refused " ++ decimal (door_number refusal)

-- what became of a file is that all its changes stand
abbrev pub is_applied : Outcome → Bool
is_applied Applied = true
is_applied (Rejected place rule) = false
is_applied (Held custodian volume) = false

-- what was asked for was done: a file is applied, or what is asked for is there
abbrev pub is_done : PrintedLine → Bool
is_done Ready = true
is_done Extended = true
is_done (NotExtended why) = false
is_done Migrated = true
is_done Current = true
is_done (New outcome) = is_applied outcome
is_done (Repeat outcome) = is_applied outcome
is_done (Taken digest) = false
is_done (Stands standing) = true
is_done (Address line) = true
is_done Nothing = false
is_done (Refused refusal) = false
