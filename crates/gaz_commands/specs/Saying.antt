-- What a command says of the hub's response, where it is printed, and whether what was asked for
-- was done.
use Rattle.std.specs.Prelude.{ℕ, Bool, true, false, List, [], ◌++◌, codes, Option, Some, None}
use Rattle.std.specs.Prelude.{Result, Ok, Err}
use Rattle.gaz_steps.specs.ToldOn.{telling}
use Rattle.gaz_steps.specs.Step.{Replied, Response, Submitted}
use Rattle.gaz_steps.specs.declared.answer.Answer.{Answer}
use Rattle.gaz_steps.specs.declared.answer.Answer.TheVariants as answer
use Rattle.gaz_steps.specs.declared.refusal.Refusal.{Refusal}
use Rattle.gaz_steps.specs.declared.refusal.Refusal.TheVariants as refusal
use Rattle.gaz_steps.specs.declared.question.Told.{Told}
use Rattle.gaz_steps.specs.declared.question.Told.TheVariants as told
use Rattle.gaz_commands.specs.Lines.{is_done, line_text}
use Rattle.gaz_steps.specs.declared.refusal.DoorRefusal.{DoorRefusal}
use Rattle.gaz_commands.specs.declared.printed.PrintedLine.TheVariants as line
use Rattle.gaz_commands.specs.declared.said.CommandFault.{CommandFault}
use Rattle.gaz_commands.specs.declared.said.CommandFault.TheVariants as fault
use Rattle.gaz_commands.specs.declared.said.Said.{Said}
use Rattle.gaz_commands.specs.declared.said.Said.TheVariants as said

-- a command that was turned away
abbrev pub turned_away : DoorRefusal → Said
turned_away refusal = said.Line (line.Refused refusal)

-- what is said of a refusal: those of the door are printed, the others are faults
abbrev pub said_refused : Refusal → Said
said_refused (refusal.Door why) = turned_away why
said_refused (refusal.NotReceived cause) = said.Failed fault.NotReceived
said_refused (refusal.ReceivedUnsettled cause) = said.Failed fault.ReceivedUnsettled

-- what is said of the answer to a submission
abbrev pub said_of : Answer → Said
said_of (answer.New outcome) = said.Line (line.New outcome)
said_of (answer.Repeat outcome) = said.Line (line.Repeat outcome)
said_of (answer.Taken digest) = said.Line (line.Taken digest)
said_of (answer.Refused why) = said_refused why

-- what is said of a property's line
abbrev pub said_address : Option (List ℕ) → Said
said_address (Some text) = said.Line (line.Address text)
said_address None = said.Line line.Nothing

-- what is said of what is there; no command asks anything else
abbrev pub said_of_told : Told → Said
said_of_told (told.Standing standing) = said.Line (line.Stands standing)
said_of_told (told.Found found) = said_address found.line
said_of_told (told.Extract bytes) = said.Extract bytes
said_of_told _ = said.Line line.Nothing

-- what is said of what is told of a question
abbrev pub said_told : Result (Option Told) Refusal → Said
said_told (Ok None) = said.Line line.Nothing
said_told (Ok (Some told)) = said_of_told told
said_told (Err why) = said_refused why

-- what is said of what the hub said
abbrev pub said_to : Response → Said
said_to (Submitted answer) = said_of answer
said_to (Replied q reply) = said_told (telling q reply)

-- what is printed on standard output; nothing for a fault
abbrev pub text_of : Said → List ℕ
text_of (said.Line printed) = line_text printed ++ codes "\n"
text_of (said.Extract bytes) = bytes
text_of (said.Failed why) = []

-- the line on standard error, which names the fault
abbrev pub error_line : CommandFault → List ℕ
error_line fault.Unreadable = codes "gazhub: Unreadable\n"
error_line fault.NotReceived = codes "gazhub: NotReceived\n"
error_line fault.ReceivedUnsettled = codes "gazhub: ReceivedUnsettled\n"

-- what was asked for was done
abbrev pub is_said_done : Said → Bool
is_said_done (said.Line printed) = is_done printed
is_said_done (said.Extract bytes) = true
is_said_done (said.Failed why) = false
