-- Worked examples on commands that are given one after another.
use Rattle.std.specs.Prelude.{◌≡◌, ℕ, Bool, List, [], ◌∷◌, Option, Some, None, Result}
use Rattle.std.specs.Prelude.{Err, refl}
use Rattle.sqlite.specs.Effect.{Database}
use Rattle.sqlite.specs.Files.{file_state, over_files}
use Rattle.sqlite_disk.specs.declared.Disk as disk
use Rattle.sqlite_disk.specs.declared.Files.{Files}
use Rattle.gaz_register.specs.Registers.{IsRegister, RegisterValue}
use Rattle.gaz_kept.specs.declared.refusal.StoreRefusal.TheVariants.{Fault}
use Rattle.gaz_calls.specs.Seen.{IsUnharmed}
use Rattle.gaz_store.specs.Opened.{IsRefused}
use Rattle.gaz_exchange.specs.Conversing.{Transfer}
use Rattle.gaz_commands.specs.declared.said.Said.{Said}
use Rattle.gaz_stored.specs.Calls.{Refused}
use Rattle.gaz_stored.specs.Meetings.{Meeting}
use Rattle.gaz_stored.specs.Stopping.{LeavesItself, MayBeLeft}
use Rattle.gaz_filing.specs.Filing.{FailsToConnect, Makes, OverFiles}
use Rattle.gaz_filing.specs.Joined.{EndedWhole, FileCall}
use Rattle.gazhub.specs.Commands.{Ends}
use Rattle.gazhub.specs.Desks.{IsDone}
use Rattle.gazhub.specs.Openings.{DoneOver, Opening, Unconnected, called_over, made_over}
use Rattle.gazhub.specs.Openings.{opened_by_words}
use Rattle.gazhub.specs.Openings as openings
use Rattle.gazhub.specs.Sessions.{AreCallsOf, AreCallsOfAll, AreLinked, AreOneRun, Ended}
use Rattle.gazhub.specs.Sessions.{FollowOn, HasFound, IsBefore, IsConnected, IsFoundBehind}
use Rattle.gazhub.specs.Sessions.{IsLeftBy, KeepsFiles, Session, Stretch, ended_for, opening_for}
use Rattle.gazhub.specs.Sites.{Closed, Deed, HasFiles, Listened, Met, NoFiles, Opened, Read}
use Rattle.gazhub.specs.Sites.{WithFiles}
use Rattle.gazhub.specs.declared.ending.Ending.{Ending}
use Rattle.gazhub.specs.declared.files.NoHub.{NoHub}
use Rattle.gazhub.specs.declared.files.NoHub.TheVariants.{Store}
use Rattle.gazhub.specs.declared.site.Purpose.{Purpose}

-- the site of the tests, as far as a store's files go
abbrev pub with_files : {D : Type 0} → Option (Files D) → Deed D → Option (Files D) → Type 0
with_files = IsDone (λ had path. []) (λ had. had) (λ had. None) (λ had. [])

module _ {S D : Type 0} (done : S → Deed D → S → Type 0) (g : disk.Ghosts D) where
  -- a store's files at a path were opened, where they could be, and this was done over them
  abbrev pub opened_at : (path : List ℕ) (purpose : Purpose) (before after : S)
      (told : Result Said NoHub)
      → WithFiles done path purpose (λ files before after told. Opening g) before after told
      → List (Opening g)
  opened_at path purpose before after told = openings.with_files g done (λ files between it. it)

  -- files were opened and given back as they were, and this was done over them
  abbrev pub opening_of : (files : Files D) → DoneOver g files (Some files) → Opening g
  opening_of files over = record { files = files; left = Some files; over = over }

  -- and this is found after it
  abbrev pub ended_at : (files : Files D) (over : DoneOver g files (Some files)) (db : Database)
      → IsFoundBehind g over db → Ended g
  ended_at files over db is_found =
      record { opening = opening_of files over; found = db; is_found = is_found }

  -- a call was refused
  abbrev pub refused : (files : Files D)
      → OverFiles g files (Some files) (IsRefused over_files) → DoneOver g files (Some files)
  refused files = called_over g (λ conn after it. Refused it)

  -- no connection was had, and the files are as they were
  abbrev pub unconnected : (files : Files D) → FailsToConnect g files files
      → DoneOver g files (Some files)
  unconnected files = Unconnected

  -- a stretch of one opening, and one of two
  abbrev pub alone : Ended g → Stretch g
  alone last = record { earlier = []; had = tt; last = last }

  abbrev pub behind_one : (opening : Opening g) → IsConnected g opening.over → Ended g → Stretch g
  behind_one opening had last = record { earlier = opening ∷ []; had = (had, tt); last = last }

  pub record WorkedSessions : Type 0 where
    -- where its files are found they are gone from there, until they are closed
    pub found : (path : List ℕ) (purpose : Purpose) (files : Files D)
        → with_files (Some files) (Opened path purpose (Some files)) None
    pub not_found : (path : List ℕ) (purpose : Purpose) (files : Files D)
        → ¬ with_files None (Opened path purpose (Some files)) None
    pub back : (files : Files D) → with_files None (Closed (Some files)) (Some files)
    -- so it keeps a store's files, whatever stands there and whoever comes
    pub desks : (text : S → List ℕ → List ℕ) (files : S → Option (Files D))
        (says : S → Option (List ℕ)) (told : S → List ℕ)
        → KeepsFiles (IsDone text files says told) files
    -- files that are opened were there, and those that are closed are there from then on
    pub opens : (path : List ℕ) (purpose : Purpose) (files : Files D)
        → IsLeftBy (Opened path purpose (Some files)) (Some files) None
    pub not_there : (path : List ℕ) (purpose : Purpose) (files : Files D)
        → ¬ IsLeftBy (Opened path purpose (Some files)) None None
    pub closes : (files : Files D) → IsLeftBy (Closed (Some files)) None (Some files)
    pub not_lost : (files : Files D) → ¬ IsLeftBy (Closed (Some files)) None None
    -- no other deed takes them, nor an opening in vain
    pub reads : (path : List ℕ) (most : ℕ) (bytes : Option (List ℕ)) (files : Files D)
        → ¬ IsLeftBy (Read path most bytes) (Some files) None
    pub meets : (met : Meeting) (files : Files D) → ¬ IsLeftBy (Met met) (Some files) None
    pub listens : (port : ℕ) (had : Option ℕ) (files : Files D)
        → ¬ IsLeftBy (Listened port had) (Some files) None
    pub in_vain : (path : List ℕ) (purpose : Purpose) (files : Files D)
        → ¬ IsLeftBy (Opened path purpose None) (Some files) None
    -- where they can't be had none are opened, else these once
    pub none : (path : List ℕ) (purpose : Purpose) (before after : S)
        (opened : done before (Opened path purpose None) after)
        → opened_at path purpose before after (Err (Store Fault)) (NoFiles opened refl) ≡ []
    pub once : (path : List ℕ) (purpose : Purpose) (files : Files D) (before between after : S)
        (told : Result Said NoHub) (opened : done before (Opened path purpose (Some files)) between)
        (it : Opening g)
        → opened_at path purpose before after told (HasFiles files between opened it) ≡ it ∷ []
    -- none are opened where the words can't be read
    pub unread : (text : List ℕ) (most : ℕ) (random : Bool) (before after : S)
        (through : Transfer) (ending : Ending)
        (ends : Ends done g text most before after through None random ending)
        → opened_by_words g done text most before after through None random ending ends ≡ []
    -- of two openings the second finds what the first gave back, and none follows where that is
    -- lost
    pub again : (files left : Files D) (one other : Opening g) → one.files ≡ files
        → one.left ≡ Some left → other.files ≡ left
        → AreLinked g (Some files) (one ∷ other ∷ []) other.left
    pub not_again : (files : Files D) (one other : Opening g) (has : Option (Files D))
        → one.left ≡ None → ¬ AreLinked g (Some files) (one ∷ other ∷ []) has
    -- one that was refused and one that made a store had a connection
    pub refused_had : (files : Files D)
        (over : OverFiles g files (Some files) (IsRefused over_files))
        → IsConnected g (refused files over)
    pub making_had : (register : RegisterValue) (is : IsRegister register) (files : Files D)
        (over : OverFiles g files (Some files) (Makes g register))
        → IsConnected g (made_over g register is over)
    pub none_had : (files : Files D) (fails : FailsToConnect g files files)
        → ¬ IsConnected g (unconnected files fails)
    -- it found what its connection showed; and after it is found what that shows, where no failure
    -- shut it, or what a stop left
    pub refused_found : (files : Files D)
        (over : OverFiles g files (Some files) (IsRefused over_files))
        → HasFound g (refused files over) (file_state over.conn).now
    pub whole : (files : Files D) (over : OverFiles g files (Some files) (IsRefused over_files))
        → IsUnharmed (file_state over.after)
        → IsFoundBehind g (refused files over) (file_state over.after).now
    pub cut_off : (files : Files D) (over : OverFiles g files (Some files) (IsRefused over_files))
        (db : Database) → LeavesItself (file_state over.conn)
        → MayBeLeft (file_state over.after) db → IsFoundBehind g (refused files over) db
    pub nothing_behind : (files : Files D) (fails : FailsToConnect g files files) (db : Database)
        → ¬ IsFoundBehind g (unconnected files fails) db
    -- of two stretches the second finds what is found after the first
    pub follow : (db : Database) (one other : Ended g) → HasFound g one.opening.over db
        → HasFound g other.opening.over one.found → FollowOn g db (alone one ∷ alone other ∷ [])
    pub not_follow : (db : Database) (one other : Ended g)
        → ¬ HasFound g other.opening.over one.found
        → ¬ FollowOn g db (alone one ∷ alone other ∷ [])
    -- two calls are a stretch, of which the first ended whole
    pub calls : (one other : FileCall g) → EndedWhole g one
        → AreCallsOf g (behind_one (opening_for g one) tt (ended_for g other)) (one ∷ other ∷ [])
    pub not_cut_off : (one other : FileCall g) → ¬ EndedWhole g one
        → ¬ AreCallsOf g (behind_one (opening_for g one) tt (ended_for g other))
        (one ∷ other ∷ [])
    -- and so are two stretches of one each, whether a stop cut off the first or not
    pub stretches : (one other : FileCall g)
        → AreCallsOfAll g (alone (ended_for g one) ∷ alone (ended_for g other) ∷ [])
        (one ∷ other ∷ [])
    -- a store that was made is no call
    pub making : (register : RegisterValue) (is : IsRegister register) (files : Files D)
        (over : OverFiles g files (Some files) (Makes g register))
        (db : Database) (is_found : IsFoundBehind g (made_over g register is over) db)
        (calls : List (FileCall g))
        → ¬ AreCallsOf g (alone (ended_at files (made_over g register is over) db is_found)) calls
    -- and of no run
    pub no_run : (register new : RegisterValue) (is : IsRegister new) (files : Files D)
        (over : OverFiles g files (Some files) (Makes g new)) (db found : Database)
        (is_found : IsFoundBehind g (made_over g new is over) found)
        → ¬ AreOneRun g register db
        (alone (ended_at files (made_over g new is over) found is_found) ∷ [])
    -- the last of those that are past stands before a stretch, and nothing where none are
    pub before : (text : List ℕ) (most : ℕ) (session : Session g done text most)
        (first last : Opening g) → session.past ≡ first ∷ last ∷ []
        → IsBefore g done text most last session
    pub not_before : (text : List ℕ) (most : ℕ) (session : Session g done text most)
        (opening : Opening g) → session.past ≡ [] → ¬ IsBefore g done text most opening session
