-- Calls over one database, one after another, each under a register of its own, of which each ends
-- whole or is cut off by a stop.
use Rattle.std.specs.Prelude.{◌≡◌, ◌⊎◌, ⊤, List, [], ◌∷◌, ◌++◌, Result, Ok, Err}
use Rattle.std.specs.declared.marker.Brand.{Brand}
use Rattle.sqlite.specs.Effect.{Database}
use Rattle.sqlite.specs.Held.{Held, state}
use Rattle.sqlite_trees.specs.declared.store.Store.{Ghosts}
use Rattle.gaz_register.specs.Registers.{IsRegister, RegisterValue}
use Rattle.gaz_keeper.specs.Received.{Received}
use Rattle.gaz_calls.specs.Seen.{IsUnharmed}
use Rattle.gaz_calls.specs.declared.growing.ExtendFault.{ExtendFault}
use Rattle.gaz_store.specs.Opened.{IsRefused}
use Rattle.gaz_store.specs.declared.store.Store.{Store}
use Rattle.gaz_steps.specs.Growth.{AbidesGrown, GrownRun, Period, last_register}
use Rattle.gaz_steps.specs.Step.{Command, HubState, Response}
use Rattle.gaz_steps.specs.Stops.{HasReceived}
use Rattle.gaz_stored.specs.Extending.{ExtendsOpened}
use Rattle.gaz_stored.specs.Migrating.{MigratesOpened}
use Rattle.gaz_stored.specs.Runs.{IsStoreOf, WentOn, hub_in}
use Rattle.gaz_stored.specs.Stopping.{IsCutTo, LeavesItself, MayBeLeft}
use Rattle.gaz_stored.specs.Using.{Uses}
use Rattle.gaz_stored.specs.declared.migrating.Migration.{Migration}

-- what a hub of this register was asked and said
abbrev pub period : RegisterValue → List Command → List Response → Period
period register commands responses =
    record { register = register; commands = commands; responses = responses }

-- these led a hub on, over registers of which each extends the one before, to what the tables stand
-- for now, as a store of the last
pub record GoesOnGrown (register : RegisterValue) (before : HubState) (periods : List Period)
    (after : Database) : Type 0 where
  pub run : GrownRun register before periods (hub_in after)
  -- what is received is what was there and what then came first, each period's by its own door; the
  -- board is partial over it, and each answer read off the standing board
  pub abides : AbidesGrown register before periods (hub_in after)
  pub store : IsStoreOf (last_register register periods) after

module _ {S : Type 0} (g : Ghosts S) where
  -- ---- a call

  -- what a call that was given one connection and handed back another came to, by its contract: a
  -- hub was used over the store that was there, whichever way; the store's register was to grow; it
  -- was to be migrated; or it was refused
  pub data CameTo (before after : Held S) : Type 0 where
    Used : (register : RegisterValue) (first : Store S Brand g) (commands : List Command)
        (responses : List Response) → IsRegister register
        → Uses g register first before after commands responses → CameTo before after
    Grew : (register grown : RegisterValue) (told : Result (Unit {0}) ExtendFault)
        → IsRegister register → IsRegister grown
        → ExtendsOpened g register grown before after told → CameTo before after
    Moved : (register : RegisterValue) (told : Migration)
        → MigratesOpened g register before after told → CameTo before after
    Refused : IsRefused g before after → CameTo before after

  -- what is found after it: what its connection shows, where no failure shut that; or what a stop
  -- left of it, where a stop at its beginning left just what the call had found
  pub data IsFoundAfter (before after : Held S) (found : Database) : Type 0 where
    Whole : IsUnharmed (state g after) → (state g after).now ≡ found
        → IsFoundAfter before after found
    CutOff : LeavesItself (state g before) → MayBeLeft (state g after) found
        → IsFoundAfter before after found

  -- a call, what it came to, and what is found after it
  pub record Call : Type 0 where
    pub before : Held S
    pub after : Held S
    pub came : CameTo before after
    pub found : Database
    pub is_found : IsFoundAfter before after found

  -- ---- what its hub was asked and said

  -- one of the grown register goes on where it grew
  abbrev pub periods_in : {before after : Held S} → CameTo before after → List Period
  periods_in (Used register first commands responses is uses) =
      period register commands responses ∷ []
  periods_in (Grew register grown (Ok done) is are extends) = period grown [] [] ∷ []
  periods_in _ = []

  -- what is left of that where the call was cut off: the first of what was asked and said, and one
  -- that was cut off; where an Err was told of a growth, that it has grown or nothing; else all
  abbrev pub AreLeftOf : {before after : Held S} → CameTo before after → List Period → Type 0
  AreLeftOf (Used register first commands responses is uses) periods =
      (asked : List Command) × (said : List Response)
      × IsCutTo commands responses asked said × (periods ≡ period register asked said ∷ [])
  AreLeftOf (Grew register grown (Err why) is are extends) periods =
      (periods ≡ []) ⊎ (periods ≡ period grown [] [] ∷ [])
  AreLeftOf came periods = periods ≡ periods_in came

  abbrev pub ArePeriodsOf : {before after : Held S} {found : Database} → CameTo before after
      → IsFoundAfter before after found → List Period → Type 0
  ArePeriodsOf came (Whole fine same) periods = periods ≡ periods_in came
  ArePeriodsOf came (CutOff itself may) periods = AreLeftOf came periods

  -- a hub that was used went on from what it found, and these files have that of each submission
  -- which it received, whether it was cut off or not
  abbrev pub StaysIn : {before after : Held S} → CameTo before after → Received → Type 0
  StaysIn {before} (Used register first commands responses is uses) files =
      WentOn register (hub_in (state g before).now) commands responses
      × HasReceived commands responses files
  StaysIn _ files = ⊤

  -- ---- one after another

  -- each finds what is found after the one before, the first this database
  abbrev pub FollowOn : Database → List Call → Type 0
  FollowOn db [] = ⊤
  FollowOn db (call ∷ later) = ((state g call.before).now ≡ db) × FollowOn call.found later

  abbrev pub found_last : Database → List Call → Database
  found_last db [] = db
  found_last db (call ∷ later) = found_last call.found later

  abbrev pub AreAllPeriods : List Call → List Period → Type 0
  AreAllPeriods [] periods = periods ≡ []
  AreAllPeriods (call ∷ later) periods = (first : List Period) × (rest : List Period)
      × ArePeriodsOf call.came call.is_found first × AreAllPeriods later rest
      × (periods ≡ first ++ rest)

  abbrev pub AllStayIn : List Call → Received → Type 0
  AllStayIn [] files = ⊤
  AllStayIn (call ∷ later) files = StaysIn call.came files × AllStayIn later files

  -- what their hubs were asked and said is one run of one hub, and no file is lost that one of them
  -- received
  pub record AreOneRun (register : RegisterValue) (db : Database) (calls : List Call)
      : Type 0 where
    pub periods : List Period
    pub periods_are : AreAllPeriods calls periods
    pub goes_on : GoesOnGrown register (hub_in db) periods (found_last db calls)
    pub stay : AllStayIn calls (hub_in (found_last db calls)).received

  -- however many there are, under whatever registers, refused or not, and however many are cut off
  abbrev pub CallsAreOne : Type 0
  CallsAreOne = (register : RegisterValue) (db : Database) (calls : List Call)
      → IsRegister register → IsStoreOf register db → FollowOn db calls
      → AreOneRun register db calls
