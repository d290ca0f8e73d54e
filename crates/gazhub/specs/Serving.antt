-- What comes of connections that are answered over the store at a path.
use Rattle.std.specs.Prelude.{◌≡◌, ◌-◌, ℕ, List, [], ◌∷◌, map, Option, Some, None}
use Rattle.std.specs.Prelude.{Result, Ok, Err, IfOk, OnErr}
use Rattle.sqlite_disk.specs.declared.Disk as disk
use Rattle.sqlite_disk.specs.declared.Files.{Files}
use Rattle.gaz_kept.specs.declared.refusal.StoreRefusal.{StoreRefusal}
use Rattle.gaz_register.specs.Registers.{RegisterValue}
use Rattle.gaz_stored.specs.Announcing.{IsAnnounced}
use Rattle.gaz_stored.specs.Meetings.{Meeting}
use Rattle.gaz_stored.specs.Serving.{AreSome}
use Rattle.gaz_stored.specs.declared.attending.Unserved.{Unserved}
use Rattle.gaz_stored.specs.declared.attending.Unserved.TheVariants.{NoPort, Unwritten}
use Rattle.gaz_words.specs.declared.command.Places.{Places}
use Rattle.gaz_filing.specs.Filing.{OpensNone, ServesStore}
use Rattle.gaz_stored.specs.declared.connections.TheConstants.{MOST_REQUESTS}
use Rattle.gazhub.specs.Sites.{Deed, Does, Listened, Met, WithFiles, WithRegister}
use Rattle.gazhub.specs.Working.{DoneIn}
use Rattle.gazhub.specs.declared.ending.Ending.{Ending}
use Rattle.gazhub.specs.declared.ending.Ending.TheVariants.{Done, Lost, NoHub, WriteFault}
use Rattle.gazhub.specs.declared.files.NoHub.{NoHub as WhyNoHub}
use Rattle.gazhub.specs.declared.files.NoHub.TheVariants as none
use Rattle.gazhub.specs.declared.site.Purpose.TheVariants.{Use}

-- how many connections were answered, none where nobody could be told where they come; or why
-- there was no hub or no port for them
abbrev pub said_of_serving : Result (Result ℕ Unserved) StoreRefusal → Result (Option ℕ) WhyNoHub
said_of_serving (Ok (Ok served)) = Ok (Some served)
said_of_serving (Ok (Err Unwritten)) = Ok None
said_of_serving (Ok (Err NoPort)) = Err none.NoPort
said_of_serving (Err refusal) = Err (none.Store refusal)

-- Below, g is what is seen of a disk, done says of a site between which states a deed can be, and
-- had and has are what the writer held and holds.
module _ {S D : Type 0} (done : S → Deed D → S → Type 0) (g : disk.Ghosts D) where
  -- a port was listened at, and a hub of the register over the store in these files answered the
  -- peers that came, at most so many, or nobody, and that is told
  pub record ServesIn (port connections : ℕ) (had has : Option (List ℕ)) (register : RegisterValue)
      (files : Files D) (before after : S) (told : Result (Option ℕ) WhyNoHub) : Type 0 where
    pub bound : Option ℕ
    pub met : List Meeting
    pub between : S
    pub does : Does done before (Listened port bound ∷ map Met met) between
    pub serves : DoneIn done (λ left how. ServesStore g files left register MOST_REQUESTS how met)
        (λ left. OpensNone g files left register) said_of_serving between after told
    pub announced : IsAnnounced bound had has serves.held
    pub some : IfOk serves.held (λ served. IfOk served (AreSome connections))
    pub nobody : OnErr serves.held (met ≡ [])

  -- Below, the register and the store are at the places, and the connections come to the port, that
  -- the words name.
  module _ (places : Places) (port : ℕ) where
    -- the register and then the store are looked for, and that is done
    abbrev pub ServesOnce : ℕ → Option (List ℕ) → Option (List ℕ) → S → S
        → Result (Option ℕ) WhyNoHub → Type 0
    ServesOnce connections had has = WithRegister done places.register.now (λ register.
        WithFiles done places.store.now Use (ServesIn port connections had has register))

    -- of so many connections that are left: none was; or the store is opened again, some of them
    -- are answered, and then the rest; or no more were answered: the store was lost, or it couldn't
    -- be said where they come, which behind the first opening nobody asks
    pub data ServesRest : ℕ → S → S → Ending → Type 0 where
      Whole : (site : S) → ServesRest 0 site site Done
      More : (left served : ℕ) (before between after : S) (ending : Ending)
          → ServesOnce left None None before between (Ok (Some served))
          → ServesRest (left - served) between after ending → ServesRest left before after ending
      Untold : (left : ℕ) (before after : S) → ServesOnce left None None before after (Ok None)
          → ServesRest left before after WriteFault
      NoMore : (left : ℕ) (before after : S) (why : WhyNoHub)
          → ServesOnce left None None before after (Err why)
          → ServesRest left before after (Lost why)

    -- the first opening says where connections come; a store that failed is opened again
    pub data ServeComesTo (connections : ℕ) (had has : Option (List ℕ)) (before after : S)
        : Ending → Type 0 where
      NeverBegins : (why : WhyNoHub) → ServesOnce connections had has before after (Err why)
          → ServeComesTo connections had has before after (NoHub why)
      NeverTold : ServesOnce connections had has before after (Ok None)
          → ServeComesTo connections had has before after WriteFault
      Begins : (served : ℕ) (between : S) (ending : Ending)
          → ServesOnce connections had has before between (Ok (Some served))
          → ServesRest (connections - served) between after ending
          → ServeComesTo connections had has before after ending
