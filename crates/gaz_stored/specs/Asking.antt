-- What a call asks of a hub.
use Rattle.std.specs.Prelude.{ℕ, List, Option, Result}
use Rattle.gaz_steps.specs.Step.{Command}
use Rattle.gaz_commands.specs.Asking.{asks_address, asks_extract, asks_standing, asks_to_submit}
use Rattle.gaz_commands.specs.declared.said.Said.{Said}
use Rattle.gaz_words.specs.declared.command.Call.{Call}
use Rattle.gaz_words.specs.declared.command.Call.TheVariants.{Submit, Status, Line, Extract}

-- what a call asks of a hub, or what is said at once; a submission is of these bytes, none where
-- its file can't be read
abbrev pub asked : Call → Option (List ℕ) → Result Command Said
asked (Submit code volume path) file = asks_to_submit code.now volume.now file
asked (Status code) file = asks_standing code.now
asked (Line uprn) file = asks_address uprn.now
asked (Extract code volume) file = asks_extract code.now volume.now
