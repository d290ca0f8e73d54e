-- What a command does where it reaches outside: it reads files, opens a store's, listens at a port
-- and answers the peers that come.
use Rattle.std.specs.Prelude.{◌≡◌, ◌^◌, ◌-◌, ℕ, suc, List, [], ◌∷◌, Option, Some}
use Rattle.std.specs.Prelude.{None, Result, Ok, Err, IfOk, option_map}
use Rattle.std.specs.Global.{Vec}
use Rattle.sqlite_disk.specs.declared.Files.{Files}
use Rattle.gaz_ids.specs.Limits.{most_bytes}
use Rattle.gaz_kept.specs.declared.refusal.StoreRefusal.{StoreRefusal}
use Rattle.gaz_kept.specs.declared.refusal.StoreRefusal.TheVariants.{Fault}
use Rattle.gaz_register.specs.Drafts.{OrMemory}
use Rattle.gaz_register.specs.Reading.{register_of}
use Rattle.gaz_register.specs.Registers.{IsRegister, RegisterValue}
use Rattle.gaz_register.specs.declared.fault.RegFault.{RegFault}
use Rattle.gaz_stored.specs.Meetings.{Meeting}
use Rattle.gaz_words.specs.declared.command.Call.{Call}
use Rattle.gaz_words.specs.declared.command.Call.TheVariants.{Submit}
use Rattle.gazhub.specs.declared.files.NoHub.{NoHub}
use Rattle.gazhub.specs.declared.files.NoHub.TheVariants as none
use Rattle.gazhub.specs.declared.site.Purpose.{Purpose}

-- a deed: of the file at a path so many bytes at most were read; the store's files at a path were
-- opened for a purpose; they were given back; a port was listened at; this came of a connection.
-- Each tells what came of it
pub data Deed (D : Type 0) : Type 0 where
  Read : (path : List ℕ) (most : ℕ) (bytes : Option (List ℕ)) → Deed D
  Opened : (path : List ℕ) (purpose : Purpose) (files : Option (Files D)) → Deed D
  Closed : (files : Option (Files D)) → Deed D
  Listened : (port : ℕ) (had : Option ℕ) → Deed D
  Met : (met : Meeting) → Deed D

-- the bytes that were read
abbrev pub bytes_of : Option (Vec ℕ) → Option (List ℕ)
bytes_of = option_map (λ bytes. bytes.items)

-- the files that were opened
abbrev pub files_of : {D O : Type 0} → Option (Files D × O) → Option (Files D)
files_of = option_map (λ found. found.0)

-- the most that can be asked for of a file: the whole of it
abbrev pub any_length : ℕ
any_length = 2 ^ 64 - 1

-- what is told of a store, or why there is none
abbrev pub of_store : {A : Type 0} → Result A StoreRefusal → Result A NoHub
of_store (Ok told) = Ok told
of_store (Err refusal) = Err (none.Store refusal)

-- the register that was read, or why there is none
abbrev pub IsRegisterOf : Option (List ℕ) → Result RegisterValue NoHub → Type 0
IsRegisterOf None found = found ≡ Err none.Unreadable
IsRegisterOf (Some text) (Ok register) = register_of text ≡ Ok register
IsRegisterOf (Some text) (Err why) =
    (fault : RegFault) × OrMemory (Err fault) (register_of text) × (why ≡ none.Register fault)

-- Below, done says of a site between which of its states a deed can be.
module _ {S D : Type 0} (done : S → Deed D → S → Type 0) where
  -- these deeds were done, one after another
  abbrev pub Does : S → List (Deed D) → S → Type 0
  Does before [] after = after ≡ before
  Does before (deed ∷ later) after =
      (between : S) × done before deed between × Does between later after

  -- the file at a path was read whole, and this is the register found there
  pub record FindsRegister (before after : S) (path : List ℕ) (found : Result RegisterValue NoHub)
      : Type 0 where
    pub bytes : Option (List ℕ)
    pub does : done before (Read path any_length bytes) after
    pub told : IsRegisterOf bytes found
    -- as each text that is read gives one (`reads_registers`)
    pub is_one : IfOk found IsRegister

  -- the store's files at a path were opened, or couldn't be
  abbrev pub FindsFiles : {O : Type 0} → S → S → List ℕ → Purpose → Result (Files D × O) NoHub
      → Type 0
  FindsFiles before after path purpose (Ok found) =
      done before (Opened path purpose (Some found.0)) after
  FindsFiles before after path purpose (Err why) =
      (why ≡ none.Store Fault) × done before (Opened path purpose None) after

  -- a call read what it needs besides: a submission its file, up to a byte more than a hub takes
  abbrev pub ReadsFor : S → S → Call → Option (List ℕ) → Type 0
  ReadsFor before after (Submit code volume path) bytes =
      done before (Read path.now (suc most_bytes) bytes) after
  ReadsFor before after _ bytes = after ≡ before

  -- Below, a command goes from the one state to the other, and told is what comes of it, or why
  -- there is no hub.

  -- the register at a path is looked for, and where it is found, this follows
  pub data WithRegister {A : Type 0} (path : List ℕ)
      (Then : RegisterValue → S → S → Result A NoHub → Type 0)
      (before after : S) (told : Result A NoHub) : Type 0 where
    NoRegister : (why : NoHub) → FindsRegister before after path (Err why) → told ≡ Err why
        → WithRegister path Then before after told
    HasRegister : (register : RegisterValue) (between : S)
        → FindsRegister before between path (Ok register) → Then register between after told
        → WithRegister path Then before after told

  -- the store's files at a path are opened for a purpose, and where they can be, this follows
  pub data WithFiles {A : Type 0} (path : List ℕ) (purpose : Purpose)
      (Then : Files D → S → S → Result A NoHub → Type 0)
      (before after : S) (told : Result A NoHub) : Type 0 where
    NoFiles : done before (Opened path purpose None) after → told ≡ Err (none.Store Fault)
        → WithFiles path purpose Then before after told
    HasFiles : (files : Files D) (between : S)
        → done before (Opened path purpose (Some files)) between
        → Then files between after told → WithFiles path purpose Then before after told
