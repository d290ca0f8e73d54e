-- A hub that is used over the store behind a connection, from the connection that is given to the
-- one that is handed back.
use Rattle.std.specs.Prelude.{◌≡◌, false, true, ℕ, List, Ok, Err}
use Rattle.std.specs.declared.marker.Brand.{Brand}
use Rattle.sqlite.specs.Held.{Held, state}
use Rattle.sqlite.specs.State.{HasCleanDisk}
use Rattle.sqlite_trees.specs.declared.store.Store.{Ghosts}
use Rattle.gaz_register.specs.Registers.{RegisterValue}
use Rattle.gaz_register.specs.Texts.{register_text}
use Rattle.gaz_keeper.specs.declared.shelf.Shelf as keeper
use Rattle.gaz_kept.specs.Opening.{Judges, Tells, Untouched, has_all}
use Rattle.gaz_kept.specs.declared.refusal.StoreRefusal.{StoreRefusal}
use Rattle.gaz_kept.specs.declared.refusal.StoreRefusal.TheVariants.{BadSchema}
use Rattle.gaz_calls.specs.Seen.{IsUnharmed}
use Rattle.gaz_store.specs.Opened.{IsOpened, IsRefused}
use Rattle.gaz_store.specs.Store.{seen_in}
use Rattle.gaz_store.specs.declared.store.Store.{Store}
use Rattle.gaz_steps.specs.Step.{Command, Response}
use Rattle.gaz_stored.specs.Runs.{GoesOn, StandForRun, WentOn, hub_in}
use Rattle.gaz_stored.specs.Stopping.{FindsLater, LeavesItself}
use Rattle.gaz_stored.specs.Ways.{GoesBy, Way}

-- how a store of the register of this text is seen as a keeper
abbrev pub seen_as : {S R : Type 0} → {g : Ghosts S} → List ℕ → keeper.Ghosts (Store S R g)
seen_as text = record { seen = seen_in text }

-- two values are the same store, whatever names its register
pub record IsSame {S R N : Type 0} {g : Ghosts S} (one : Store S R g) (other : Store S N g)
    : Type 0 where
  pub tables : other.tables ≡ one.tables
  pub judging : other.judging ≡ one.judging

-- a store was used so as one of the register of this text, which N names, and this connection is
-- left
pub record UsedAs {S R : Type 0} {g : Ghosts S} (N : Type 0) (text : List ℕ)
    (register : RegisterValue) (way : Way (Store S N g)) (given : Store S R g) (after : Held S)
    : Type 0 where
  pub first : Store S N g
  pub last : Store S N g
  pub same : IsSame given first
  pub goes : GoesBy (seen_in text) register way first last
  pub back : last.tables.conn ≡ after

-- the database behind a connection was opened as this store of the register, of which its only row
-- of `meta` is
pub record IsOpenedFrom {S R : Type 0} (g : Ghosts S) (register : RegisterValue) (before : Held S)
    (first : Store S R g) : Type 0 where
  -- each table of a store was there, with its columns
  pub all : has_all (state g before).now.schema ≡ true
  pub opened : IsOpened (state g before) (state g first.tables.conn) (register_text register)
      (seen_in (register_text register) first)
  pub told : Tells g before first.tables.conn (Ok tt) (register_text register)
  pub judged : Judges g before first.tables.conn (Ok tt) (register_text register)

-- Below, before and after are the connection that is given and the one that is handed back.
module _ {S : Type 0} (g : Ghosts S) (register : RegisterValue) where
  -- A hub of this register did this and said that over the store that was opened so, and that is
  -- what a stop leaves of it. Where the tables stand for a partial run it begins with that.
  pub record Uses {R : Type 0} (first : Store S R g) (before after : Held S)
      (commands : List Command) (responses : List Response) : Type 0 where
    pub opened : IsOpenedFrom g register before first
    -- where the connection is open in the end, or the disk clean, it was once there was a store
    pub harm : IsUnharmed (state g after) → IsUnharmed (state g first.tables.conn)
    pub trust : HasCleanDisk (state g after) → HasCleanDisk (state g first.tables.conn)
    -- where the disk stayed clean it went on, whatever a failure shut
    pub went_on : HasCleanDisk (state g after) → StandForRun register (state g before).now
        → WentOn register (hub_in (state g before).now) commands responses
    -- and to what the tables stand for, where the connection is open
    pub goes_on : IsUnharmed (state g after) → StandForRun register (state g before).now
        → GoesOn register (hub_in (state g before).now) commands responses (state g after).now
    -- and what a stop leaves in the end is found so, whatever a failure shut, where one at the
    -- beginning left just these tables
    pub stops : StandForRun register (state g before).now → LeavesItself (state g before)
        → FindsLater register (hub_in (state g before).now) commands responses (state g after)

  -- it was used so over the store that is there
  pub record UsesOpened (way : Way (Store S Brand g)) (before after : Held S) : Type 0 where
    pub first : Store S Brand g
    pub last : Store S Brand g
    pub commands : List Command
    pub responses : List Response
    pub went : way first last commands responses
    pub back : last.tables.conn ≡ after
    pub uses : Uses first before after commands responses

  -- there is no store of this register, for this reason; the database holds what it held
  pub record LacksStore (why : StoreRefusal) (before after : Held S) : Type 0 where
    -- a table or a column is missing
    pub lacking : has_all (state g before).now.schema ≡ false → why ≡ BadSchema
    -- what is told of the rows of `meta`
    pub rows : Tells g before after (Err why) (register_text register)
    pub judged : Judges g before after (Err why) (register_text register)
    pub refused : IsRefused g before after
    pub untouched : Untouched g before after
