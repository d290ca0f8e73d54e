-- A whole conversation of a hub over a store in memory that begins with nothing.
use Rattle.std.specs.Prelude.{◌≡◌, ℕ, List, [], IsTrue, Result, Ok}
use Rattle.sqlite.specs.Files.{file_state, over_files}
use Rattle.gaz_quiet.specs.Databases.{Quiet}
use Rattle.gaz_register.specs.Reading.{register_of}
use Rattle.gaz_register.specs.Registers.{RegisterValue}
use Rattle.gaz_register.specs.Texts.{register_text}
use Rattle.gaz_steps.specs.Step.{new_hub}
use Rattle.gaz_exchange.specs.Conversing.{Transfer}
use Rattle.gaz_exchange.specs.declared.conversation.Served.{Served}
use Rattle.gaz_exchange.specs.declared.conversation.Stopped.{Stopped}
use Rattle.gaz_stored.specs.Runs.{GoesOn, WentOn}
use Rattle.gaz_stored.specs.Using.{UsesOpened, seen_as}
use Rattle.gaz_stored.specs.Ways.{Converses}

-- a store of the register in memory, of which nothing was asked
abbrev pub IsNew : RegisterValue → Quiet → Type 0
IsNew register conn = GoesOn register new_hub [] [] (file_state conn).now

-- a hub of the register that a text describes, over a new store in memory, answers at most so many
-- requests
pub record Plays (text : List ℕ) (most : ℕ) (through : Transfer) (ended : Result Served Stopped)
    : Type 0 where
  pub register : RegisterValue
  pub described : register_of text ≡ Ok register
  pub before : Quiet
  pub after : Quiet
  pub new : IsNew register before
  pub uses : UsesOpened over_files register (Converses (seen_as (register_text register)) register
      most through ended) before after
  -- from one that begins with nothing the hub went on, whatever a failure shut
  pub went_on : WentOn register new_hub uses.commands uses.responses
  -- and to what the tables stand for, where the database is still open
  pub goes_on : IsTrue (file_state after).is_open
      → GoesOn register new_hub uses.commands uses.responses (file_state after).now
