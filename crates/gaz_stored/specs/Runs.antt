-- What the tables of a database stand for, before a conversation and after it.
use Rattle.std.specs.Prelude.{List}
use Rattle.sqlite.specs.Effect.{Database}
use Rattle.gaz_register.specs.Registers.{RegisterValue}
use Rattle.gaz_register.specs.Texts.{register_text}
use Rattle.gaz_tables.specs.Schema.{meta}
use Rattle.gaz_tables.specs.Tables.{rows_of}
use Rattle.gaz_views.specs.View.{empty_view}
use Rattle.gaz_kept.specs.Contents.{content_in}
use Rattle.gaz_kept.specs.Kept.{IsKept}
use Rattle.gaz_kept.specs.Opening.{IsOf}
use Rattle.gaz_steps.specs.Answers.{AllReadOff}
use Rattle.gaz_steps.specs.Hubs.{MayHave, door_of, state_of}
use Rattle.gaz_steps.specs.Runs.{AbidesFrom, Run}
use Rattle.gaz_steps.specs.Step.{Command, HubState, Response}

-- the hub that the tables stand for: what was received, and how far it is judged
abbrev pub hub_in : Database → HubState
hub_in db = state_of (content_in db empty_view)

-- the tables are a store's, and stand for a partial run of files of custodians that are known
pub record StandForRun (register : RegisterValue) (db : Database) : Type 0 where
  pub kept : IsKept db
  pub may : MayHave (door_of register) (content_in db empty_view)

-- they do, and are of this register
pub record IsStoreOf (register : RegisterValue) (db : Database) : Type 0 where
  pub stands : StandForRun register db
  pub whose : IsOf (register_text register) (rows_of db meta)

-- commands and responses by which a hub went, step by step, from the one to the other
pub record Went (register : RegisterValue) (before : HubState) (commands : List Command)
    (responses : List Response) (after : HubState) : Type 0 where
  pub run : Run (door_of register) before commands responses after
  -- what is received is what was there and what then came first, and the board is partial over it
  pub abides : AbidesFrom (door_of register) before commands responses after
  -- each answer is read off the standing board of all files that were received by then
  pub answers : AllReadOff (door_of register) before.received commands responses

-- they led to some hub, whatever became of its tables
pub record WentOn (register : RegisterValue) (before : HubState) (commands : List Command)
    (responses : List Response) : Type 0 where
  pub last : HubState
  pub went : Went register before commands responses last

-- they led to the hub that the tables stand for now, as a store of the register, from which the
-- next ones can go on
pub record GoesOn (register : RegisterValue) (before : HubState) (commands : List Command)
    (responses : List Response) (after : Database) : Type 0 where
  pub went : Went register before commands responses (hub_in after)
  pub store : IsStoreOf register after
