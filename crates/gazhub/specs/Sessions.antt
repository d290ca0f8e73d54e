-- Commands that are given one after another at a site that keeps a store's files: what they did
-- over these is one run of one hub.
use Rattle.std.specs.Prelude.{◌≡◌, ⊤, ◌++◌, ℕ, Bool, List, [], ◌∷◌, map, Option, Some}
use Rattle.sqlite.specs.Effect.{Database}
use Rattle.sqlite.specs.Files.{file_state, over_files}
use Rattle.sqlite_disk.specs.declared.Disk as disk
use Rattle.sqlite_disk.specs.declared.Files.{Files}
use Rattle.gaz_register.specs.Registers.{IsRegister, RegisterValue}
use Rattle.gaz_tables.specs.Creating.{HasRoom}
use Rattle.gaz_calls.specs.Seen.{IsUnharmed}
use Rattle.gaz_steps.specs.Step.{new_hub}
use Rattle.gaz_exchange.specs.Conversing.{Transfer}
use Rattle.gaz_stored.specs.Calls.{IsFoundAfter, Moved}
use Rattle.gaz_stored.specs.Migrating.{FirstStandForRun, StandsMoved}
use Rattle.gaz_stored.specs.Runs.{GoesOn, IsStoreOf}
use Rattle.gaz_stored.specs.declared.migrating.Migration.{Migration}
use Rattle.gaz_filing.specs.Filing.{Makes, MigratesStore, OverFiles}
use Rattle.gaz_filing.specs.Joined.{AreOne, EndedWhole, FileCall}
use Rattle.gazhub.specs.Commands.{Commands}
use Rattle.gazhub.specs.Openings.{Did, DoneOver, Opening, Over, Unconnected, called_over}
use Rattle.gazhub.specs.Openings.{made_over, opened_by_words}
use Rattle.gazhub.specs.Sites.{Closed, Deed, Opened}

-- what a deed makes of a store's files: those that are opened were there, those that are closed are
-- there from then on, and any other deed, an opening in vain too, leaves them. What is there while
-- they are open isn't said
abbrev pub IsLeftBy : {D : Type 0} → Deed D → Option (Files D) → Option (Files D) → Type 0
IsLeftBy (Opened path purpose (Some found)) old new = old ≡ Some found
IsLeftBy (Closed left) old new = new ≡ left
IsLeftBy deed old new = new ≡ old

-- a site has the files of one store, whatever the path, and each deed leaves of them what it says
abbrev pub KeepsFiles : {S D : Type 0} → (S → Deed D → S → Type 0) → (S → Option (Files D)) → Type 0
KeepsFiles {S} {D} done files =
    (old new : S) (deed : Deed D) → done old deed new → IsLeftBy deed (files old) (files new)

module _ {D : Type 0} (g : disk.Ghosts D) where
  -- the first finds these files, each of the others what the one before gave back, and those are
  -- left
  abbrev pub AreLinked : Option (Files D) → List (Opening g) → Option (Files D) → Type 0
  AreLinked had [] has = has ≡ had
  AreLinked had (opening ∷ later) has =
      (had ≡ Some opening.files) × AreLinked opening.left later has

  -- ---- what was done over the files they opened

  -- there was a connection to a database
  abbrev pub IsConnected : {files : Files D} {left : Option (Files D)} → DoneOver g files left
      → Type 0
  IsConnected (Over over) = ⊤
  IsConnected (Unconnected fails) = ⊥

  abbrev pub HadConnections : List (Opening g) → Type 0
  HadConnections [] = ⊤
  HadConnections (opening ∷ later) = IsConnected opening.over × HadConnections later

  -- it found this database
  abbrev pub HasFound : {files : Files D} {left : Option (Files D)} → DoneOver g files left
      → Database → Type 0
  HasFound (Over over) db = (file_state over.conn).now ≡ db
  HasFound (Unconnected fails) db = ⊥

  -- and this is found after it: what its connection shows, or what a stop left of it
  abbrev pub IsFoundBehind : {files : Files D} {left : Option (Files D)} → DoneOver g files left
      → Database → Type 0
  IsFoundBehind (Over over) db = IsFoundAfter over_files over.conn over.after db
  IsFoundBehind (Unconnected fails) db = ⊥

  -- an opening, and what is found after it
  pub record Ended : Type 0 where
    pub opening : Opening g
    pub found : Database
    pub is_found : IsFoundBehind opening.over found

  -- openings, one after another, each with its connection, and what is found after the last
  pub record Stretch : Type 0 where
    pub earlier : List (Opening g)
    pub had : HadConnections earlier
    pub last : Ended

  abbrev pub openings_of : Stretch → List (Opening g)
  openings_of it = it.earlier ++ it.last.opening ∷ []

  abbrev pub first_of : List (Opening g) → Opening g → Opening g
  first_of [] last = last
  first_of (opening ∷ later) last = opening

  -- the first of them found this database
  abbrev pub FirstFound : Stretch → Database → Type 0
  FirstFound it db = HasFound (first_of it.earlier it.last.opening).over db

  -- the first finds this database, and each of the others what is found after the one before
  abbrev pub FollowOn : Database → List Stretch → Type 0
  FollowOn db [] = ⊤
  FollowOn db (stretch ∷ later) = FirstFound stretch db × FollowOn stretch.last.found later

  -- ---- which calls these were

  -- the opening in which a call is made
  abbrev pub opening_for : FileCall g → Opening g
  opening_for call = record {
    files = call.files;
    left = call.left;
    over = called_over g (λ conn after came. came) call.over;
  }

  -- and what is found after it
  abbrev pub ended_for : FileCall g → Ended
  ended_for call = record {
    opening = opening_for call;
    found = call.found;
    is_found = call.is_found;
  }

  abbrev pub AllEndedWhole : List (FileCall g) → Type 0
  AllEndedWhole [] = ⊤
  AllEndedWhole (call ∷ later) = EndedWhole g call × AllEndedWhole later

  -- a stretch is these calls, of which all but the last ended whole
  pub record AreCallsOf (stretch : Stretch) (calls : List (FileCall g)) : Type 0 where
    pub whole : List (FileCall g)
    pub last : FileCall g
    pub are : calls ≡ whole ++ last ∷ []
    pub earlier_are : stretch.earlier ≡ map opening_for whole
    pub ended_whole : AllEndedWhole whole
    pub last_is : stretch.last ≡ ended_for last

  abbrev pub AreCallsOfAll : List Stretch → List (FileCall g) → Type 0
  AreCallsOfAll [] calls = calls ≡ []
  AreCallsOfAll (stretch ∷ later) calls = (own : List (FileCall g)) × (rest : List (FileCall g))
      × AreCallsOf stretch own × AreCallsOfAll later rest × (calls ≡ own ++ rest)

  -- they are calls, and one run of one hub from what a database stands for
  pub record AreOneRun (register : RegisterValue) (db : Database) (stretches : List Stretch)
      : Type 0 where
    pub calls : List (FileCall g)
    pub are : AreCallsOfAll stretches calls
    pub one : AreOne g register db calls

  -- ---- what one before them did

  -- a store of the register was made, where there was room for one
  pub record MakesFirst (register : RegisterValue) (opening : Opening g) : Type 0 where
    pub is : IsRegister register
    pub over : OverFiles g opening.files opening.left (Makes g register)
    pub is_it : opening.over ≡ made_over g register is over
    pub room : HasRoom (file_state over.conn).now.schema

  -- tables of schema 1, which stood for a partial run, were migrated to a store of the register
  pub record MovesFirst (register : RegisterValue) (opening : Opening g) : Type 0 where
    pub is : IsRegister register
    pub told : Migration
    pub over : MigratesStore g opening.files opening.left register told
    pub is_it : opening.over ≡ called_over g (λ conn after it. Moved register told it.0) over
    pub stood : FirstStandForRun register (file_state over.conn).now

  -- ---- commands

  -- Below, done says of a site between which states a deed can be; and a conversation is held at a
  -- hub of the register that the text describes, with at most so many requests.
  module _ {S : Type 0} (done : S → Deed D → S → Type 0) (text : List ℕ) (most : ℕ) where
    -- the program was given these words, and did and told this
    pub record Given : Type 0 where
      pub words : Option (List (List ℕ))
      pub random : Bool
      pub before : S
      pub after : S
      pub through : Transfer
      pub heard : Option (List ℕ)
      pub hears : Option (List ℕ)
      pub status : ℕ
      pub came :
          Commands done g text most words random before after through heard hears status

    -- each where the one before ended
    abbrev pub AreGivenInTurn : S → List Given → S → Type 0
    AreGivenInTurn before [] after = after ≡ before
    AreGivenInTurn before (given ∷ later) after =
        (given.before ≡ before) × AreGivenInTurn given.after later after

    -- the openings that they made, one after another
    abbrev pub openings_in : List Given → List (Opening g)
    openings_in [] = []
    openings_in (given ∷ later) =
        opened_by_words g done text most given.before given.after given.through given.words
        given.random given.came.ending given.came.ends ++ openings_in later

    -- commands given in turn, up to a stop or the end, and of the openings that they made the
    -- stretch that is looked at: the last of them, behind any that are past, as one by which the
    -- store was made or migrated
    pub record Session : Type 0 where
      pub before : S
      pub after : S
      pub given : List Given
      pub in_turn : AreGivenInTurn before given after
      pub past : List (Opening g)
      pub stretch : Stretch
      pub are : openings_in given ≡ past ++ openings_of stretch

    abbrev pub stretches_of : List Session → List Stretch
    stretches_of = map (λ session. session.stretch)

    -- this is the opening before those that are looked at
    abbrev pub IsBefore : Opening g → Session → Type 0
    IsBefore opening session =
        (past : List (Opening g)) × (session.past ≡ past ++ opening ∷ [])

    -- what commands do to a store's files, at a site that keeps these
    pub record AreOneOver (files : S → Option (Files D)) : Type 0 where
      -- each opening finds what the one before gave back
      pub linked : (before after : S) (given : List Given) → AreGivenInTurn before given after
          → AreLinked (files before) (openings_in given) (files after)
      -- one that makes a store leaves that of a hub that was asked nothing, where no failure shut
      -- its connection
      pub made : (register : RegisterValue) (opening : Opening g)
          → (makes : MakesFirst register opening) → IsUnharmed (file_state makes.over.after)
          → GoesOn register new_hub [] [] (file_state makes.over.after).now
      -- and one that migrates one that of the hub that its tables stood for
      pub moved : (register : RegisterValue) (opening : Opening g)
          → (moves : MovesFirst register opening) → IsUnharmed (file_state moves.over.after)
          → StandsMoved register (file_state moves.over.conn).now
          (file_state moves.over.after).now
      -- a stretch finds what the opening before it left, whose connection no failure had shut
      pub found : (session : Session) (opening : Opening g)
          (over : OverFiles g opening.files opening.left (Did g)) (db : Database)
          → IsBefore opening session → opening.over ≡ Over over → FirstFound session.stretch db
          → IsUnharmed (file_state over.after) × ((file_state over.after).now ≡ db)
      -- over a store that the first of them finds they are one run of one hub, however many
      -- sessions there are, each of which finds what is found after the one before, and however
      -- many of them end in a stop: each opening is a call, and none makes a store again
      pub opened : (register : RegisterValue) (db : Database) (sessions : List Session)
          → IsRegister register → IsStoreOf register db → FollowOn db (stretches_of sessions)
          → AreOneRun register db (stretches_of sessions)

    -- so it is of each store's files that a site keeps
    abbrev pub SessionsAreOne : Type 0
    SessionsAreOne = (files : S → Option (Files D)) → KeepsFiles done files → AreOneOver files
