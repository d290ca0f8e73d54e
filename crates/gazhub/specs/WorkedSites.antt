-- Worked examples on what is done at a site, and on how the program ends.
use Rattle.std.specs.Prelude.{◌≡◌, ◌++◌, [], ◌∷◌, ℕ, suc, true, List, map, Option, Some, None}
use Rattle.std.specs.Prelude.{codes, Ok, Err}
use Rattle.std.specs.Borrow.{Bor}
use Rattle.clap.specs.declared.error.kind.ErrorKind.TheVariants as kind
use Rattle.sqlite_disk.specs.declared.Disk as disk
use Rattle.gaz_commands.specs.declared.said.CommandFault.{CommandFault}
use Rattle.gaz_commands.specs.declared.said.Said.TheVariants as said
use Rattle.gaz_ids.specs.Limits.{most_bytes}
use Rattle.gaz_kept.specs.declared.refusal.StoreRefusal.TheVariants.{Fault}
use Rattle.gaz_register.specs.Registers.{RegisterValue}
use Rattle.gaz_stored.specs.Meetings.{Missed, Came, Left}
use Rattle.gaz_words.specs.declared.command.Call.TheVariants.{Status, Submit}
use Rattle.gaz_words.specs.declared.command.Places.{Places}
use Rattle.gazhub.specs.Commands.{IsExplained, IsTold}
use Rattle.gazhub.specs.Desks.{IsReadOf, text_at}
use Rattle.gazhub.specs.Serving.{ServesRest}
use Rattle.gazhub.specs.Sites.{Deed, Does, FindsRegister, Listened, Met, Opened, Read, ReadsFor}
use Rattle.gazhub.specs.Sites.{WithFiles, any_length}
use Rattle.gazhub.specs.declared.ending.Ending.TheVariants.{Done, Failed, NoHub, Usage}
use Rattle.gazhub.specs.declared.files.NoHub.{NoHub as WhyNoHub}
use Rattle.gazhub.specs.declared.files.NoHub.TheVariants.{Store, Unreadable}
use Rattle.gazhub.specs.declared.site.Purpose.{Purpose}

module _ {D : Type 0} (g : disk.Ghosts D) where
  -- a site whose state is the list of what was done at it
  abbrev pub noted : List (Deed D) → Deed D → List (Deed D) → Type 0
  noted before deed after = after ≡ before ++ deed ∷ []

  -- a file was read, and gave nothing
  abbrev pub read_in_vain : List ℕ → List (Deed D)
  read_in_vain path = Read path any_length None ∷ []

  pub record WorkedSites : Type 0 where
    pub read : (path : List ℕ) → Does noted [] (Read path any_length None ∷ []) (read_in_vain path)
    pub not_read : (path : List ℕ) → ¬ Does noted [] (Read path any_length None ∷ []) []
    -- of a longer text so many bytes are read
    pub read_some : IsReadOf (codes "abc") 2 (Some (codes "ab"))
    pub not_more : ¬ IsReadOf (codes "abc") 2 (Some (codes "abc"))
    -- at the register's path stands its text, at any other the change file's
    pub register_there : text_at (codes "r") (codes "c") (codes "hub.toml") ≡ codes "r"
    pub change_there : text_at (codes "r") (codes "c") (codes "flat.csv") ≡ codes "c"
    -- a file that can't be read gives no register
    pub unreadable : (path : List ℕ)
        → FindsRegister noted [] (read_in_vain path) path (Err Unreadable)
    pub not_found : (path : List ℕ) (register : RegisterValue)
        → ¬ FindsRegister noted [] (read_in_vain path) path (Ok register)
    -- a submission reads its file, up to a byte more than a hub takes; a question reads none
    pub submits : (code volume path : Bor (List ℕ)) (bytes : Option (List ℕ))
        → ReadsFor noted [] (Read path.now (suc most_bytes) bytes ∷ [])
        (Submit code volume path) bytes
    pub not_submitted : (code volume path : Bor (List ℕ)) (bytes : Option (List ℕ))
        → ¬ ReadsFor noted [] [] (Submit code volume path) bytes
    pub asks : (code : Bor (List ℕ)) → ReadsFor noted [] [] (Status code) None
    -- files that can't be opened are no store
    pub no_files : (path : List ℕ) (purpose : Purpose)
        → WithFiles noted {A = Unit {0}} path purpose (λ files before after told. ⊥) []
        (Opened path purpose None ∷ []) (Err (Store Fault))
    -- a port is listened at, and a peer comes and is left; where nobody came, none was missed
    pub meets : (port : ℕ) (said told : Option (List ℕ))
        → Does noted [] (Listened port (Some port) ∷ map Met (Came said (Some [])
        ∷ Left (Some []) told true ∷ []))
        (Listened port (Some port) ∷ Met (Came said (Some []))
        ∷ Met (Left (Some []) told true) ∷ [])
    pub not_met : (port : ℕ) → ¬ Does noted []
        (Listened port (Some port) ∷ map Met (Missed ∷ [])) (Listened port (Some port) ∷ [])
    -- a fault ends the program as one, and prints nothing
    pub failed : (fault : CommandFault)
        → IsTold (Some []) (Some []) (said.Failed fault) (Failed fault)
    pub not_done : (fault : CommandFault) → ¬ IsTold (Some []) (Some []) (said.Failed fault) Done
    -- where no connection is left, none is answered; and where no hub was there to begin with, none
    -- was lost
    pub none_left : (places : Places) (port : ℕ) (site : List (Deed D))
        → ServesRest noted g places port 0 site site Done
    pub lost : (places : Places) (port left : ℕ) (after : List (Deed D)) (why : WhyNoHub)
        → ¬ ServesRest noted g places port left [] after (NoHub why)
    -- what is unknown is a fault of usage, and help is none
    pub usage : IsExplained kind.UnknownArgument Usage
    pub not_done_well : ¬ IsExplained kind.UnknownArgument Done
    pub shown : IsExplained kind.DisplayHelp Done
    pub not_usage : ¬ IsExplained kind.DisplayHelp Usage
