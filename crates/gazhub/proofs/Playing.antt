-- What is told of a conversation over a store in memory.
use Rattle.std.proofs.Common.{◌≡◌, ℕ, List, Ok, Result, IsTrue, subst, sym}
use Rattle.std.specs.declared.marker.Brand.{Brand}
use Rattle.sqlite.specs.Files.{file_state, over_files}
use Rattle.sqlite_store.specs.declared.store.FileStore.{FileStore}
use Rattle.gaz_quiet.specs.Databases.{Quiet, no_tables, quiet}
use Rattle.gaz_quiet.specs.declared.quiet.QuietDisk.{QuietDisk}
use Rattle.gaz_quiet.proofs.Clean.{quiet_is_clean}
use Rattle.gaz_register.specs.Reading.{register_of}
use Rattle.gaz_register.specs.Registers.{RegisterValue}
use Rattle.gaz_register.specs.Texts.{register_text}
use Rattle.gaz_steps.specs.Step.{HubState, new_hub}
use Rattle.gaz_exchange.specs.Conversing.{Transfer}
use Rattle.gaz_exchange.specs.declared.conversation.Served.{Served}
use Rattle.gaz_exchange.specs.declared.conversation.Stopped.{Stopped}
use Rattle.gaz_tables.proofs.CreatingExamples.{room_in_nothing}
use Rattle.gaz_tables.specs.Creating.{HasRoom}
use Rattle.gaz_calls.specs.Seen.{IsUnharmed}
use Rattle.gaz_store.specs.Opened.{IsMade}
use Rattle.gaz_store.specs.Store.{seen_in}
use Rattle.gaz_store.specs.declared.store.Store.{Store}
use Rattle.gaz_stored.proofs.Using.{made_alone}
use Rattle.gaz_stored.specs.Runs.{GoesOn, WentOn, hub_in}
use Rattle.gaz_stored.specs.Using.{UsesOpened, seen_as}
use Rattle.gaz_stored.specs.Ways.{Converses}
use Rattle.gazhub.specs.Playing.{IsNew, Plays}

-- the files give what was written, so nothing harms a database that is open
unharmed : (after : Quiet) → IsTrue (file_state after).is_open → IsUnharmed (file_state after)
unharmed after is_open = record { clean = quiet_is_clean after; is_open = is_open }

pub new_made : (register : RegisterValue) (conn : Quiet) (store : Store (FileStore QuietDisk quiet) Brand over_files) (after : Quiet) → (file_state conn).now.schema ≡ no_tables → IsMade (file_state conn) (file_state store.tables.conn) (register_text register) (seen_in (register_text register) store)
    → store.tables.conn ≡ after → IsNew register after
new_made register conn store after empty made back =
    let fine = unharmed store.tables.conn (made.is_open (quiet_is_clean store.tables.conn)) in
    subst (IsNew register) back (made_alone register conn store made (subst HasRoom (sym empty) room_in_nothing) fine)

pub plays : (text : List ℕ) (most : ℕ) (through : Transfer) (ended : Result Served Stopped) (register : RegisterValue) (before after : Quiet)
    → register_of text ≡ Ok register → IsNew register before → UsesOpened over_files register (Converses (seen_as (register_text register)) register most through ended) before after
    → Plays text most through ended
plays text most through ended register before after described new told =
    let stood = new.store.stands in
    let empty : hub_in (file_state before).now ≡ new_hub = new.went.run in
    record {
      register = register;
      described = described;
      before = before;
      after = after;
      new = new;
      uses = told;
      went_on = subst (λ (h : HubState). WentOn register h told.commands told.responses) empty (told.uses.went_on (quiet_is_clean after) stood);
      goes_on = λ is_open. subst (λ (h : HubState). GoesOn register h told.commands told.responses (file_state after).now) empty (told.uses.goes_on (unharmed after is_open) stood);
    }
