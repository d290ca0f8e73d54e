-- What the words of a command ask of the hub, or what is said at once: numbers are looked at in the
-- order in which they stand, and before the change file.
use Rattle.std.specs.Prelude.{ℕ, List, Option, Some, None, Result, Ok, Err}
use Rattle.gaz_ids.specs.Numbers.{read_code, read_uprn, read_volume}
use Rattle.gaz_steps.specs.Step.{Command, Pose, Submit}
use Rattle.gaz_steps.specs.declared.question.Question.TheVariants.{Extract, LookUp, Stand}
use Rattle.gaz_commands.specs.Saying.{turned_away}
use Rattle.gaz_steps.specs.declared.refusal.DoorRefusal.TheVariants as door
use Rattle.gaz_commands.specs.declared.printed.PrintedLine.TheVariants as line
use Rattle.gaz_commands.specs.declared.said.CommandFault.TheVariants as fault
use Rattle.gaz_commands.specs.declared.said.Said.{Said}
use Rattle.gaz_commands.specs.declared.said.Said.TheVariants as said

-- a submission of a file; its bytes are given where it could be read
abbrev pub submission : Option ℕ → Option ℕ → Option (List ℕ) → Result Command Said
submission None volume file = Err (turned_away door.UnknownCustodian)
submission (Some c) None file = Err (turned_away door.BadVolume)
submission (Some c) (Some volume) None = Err (said.Failed fault.Unreadable)
submission (Some c) (Some volume) (Some bytes) = Ok (Submit c volume bytes)

abbrev pub asks_to_submit : List ℕ → List ℕ → Option (List ℕ) → Result Command Said
asks_to_submit code volume file = submission (read_code code) (read_volume volume) file

-- how far a custodian's files are judged
abbrev pub standing_of : Option ℕ → Result Command Said
standing_of None = Err (turned_away door.UnknownCustodian)
standing_of (Some c) = Ok (Pose (Stand c))

abbrev pub asks_standing : List ℕ → Result Command Said
asks_standing code = standing_of (read_code code)

-- how a property is addressed; a number that doesn't read is that of no property
abbrev pub address_of : Option ℕ → Result Command Said
address_of None = Err (said.Line line.Nothing)
address_of (Some uprn) = Ok (Pose (LookUp uprn))

abbrev pub asks_address : List ℕ → Result Command Said
asks_address uprn = address_of (read_uprn uprn)

-- a custodian's view after a volume
abbrev pub extract_of : Option ℕ → Option ℕ → Result Command Said
extract_of None volume = Err (turned_away door.UnknownCustodian)
extract_of (Some c) None = Err (turned_away door.BadVolume)
extract_of (Some c) (Some volume) = Ok (Pose (Extract c volume))

abbrev pub asks_extract : List ℕ → List ℕ → Result Command Said
asks_extract code volume = extract_of (read_code code) (read_volume volume)
