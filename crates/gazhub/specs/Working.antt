-- What comes of a command over the store at a path.
use Rattle.std.specs.Prelude.{◌≡◌, ℕ, List, Option, Result, IfOk, IfErr}
use Rattle.sqlite_disk.specs.declared.Disk as disk
use Rattle.sqlite_disk.specs.declared.Files.{Files}
use Rattle.gaz_kept.specs.declared.refusal.StoreRefusal.{StoreRefusal}
use Rattle.gaz_register.specs.Registers.{RegisterValue}
use Rattle.gaz_stored.specs.Asking.{asked}
use Rattle.gaz_commands.specs.declared.said.Said.{Said}
use Rattle.gaz_words.specs.declared.command.Call.{Call}
use Rattle.gaz_words.specs.declared.command.Places.{Places}
use Rattle.gaz_filing.specs.Filing.{AsksStore, ExtendsStore, MakesNone, MakesStore, MigratesNone}
use Rattle.gaz_filing.specs.Filing.{MigratesStore, OpensNone}
use Rattle.gazhub.specs.Changing.{said_of_growth, said_of_migration}
use Rattle.gazhub.specs.Sites.{Closed, Deed, ReadsFor, WithFiles, WithRegister, of_store}
use Rattle.gazhub.specs.declared.files.NoHub.{NoHub}
use Rattle.gazhub.specs.declared.site.Purpose.TheVariants as purpose

-- Below, done says of a site between which states a deed can be.
module _ {S D : Type 0} (done : S → Deed D → S → Type 0) where
  -- what was to be done over the store in these files was done, or there was none, and that is told
  pub record DoneIn {T A : Type 0} (Does : Option (Files D) → T → Type 0)
      (Lacks : Option (Files D) → StoreRefusal → Type 0)
      (said_of : Result T StoreRefusal → Result A NoHub) (before after : S)
      (told : Result A NoHub) : Type 0 where
    pub left : Option (Files D)
    pub held : Result T StoreRefusal
    pub does : IfOk held (Does left)
    pub lacks : IfErr held (Lacks left)
    pub told_is : told ≡ said_of held
    pub closed : done before (Closed left) after

-- Below, g is what is seen of a disk.
module _ {S D : Type 0} (done : S → Deed D → S → Type 0) (g : disk.Ghosts D) where
  -- a store of the register was made
  abbrev pub MakesIn : RegisterValue → Files D → S → S → Result Said NoHub → Type 0
  MakesIn register files =
      DoneIn done (λ left. MakesStore g files left register)
      (λ left. MakesNone g files left register) of_store

  -- its register was to grow
  abbrev pub GrowsIn : RegisterValue → RegisterValue → Files D → S → S → Result Said NoHub → Type 0
  GrowsIn register grown files = DoneIn done (λ left. ExtendsStore g files left register grown)
      (λ left. OpensNone g files left register) said_of_growth

  -- it was to be migrated
  abbrev pub MigratesIn : RegisterValue → Files D → S → S → Result Said NoHub → Type 0
  MigratesIn register files = DoneIn done (λ left. MigratesStore g files left register)
      (λ left. MigratesNone g files left register) said_of_migration

  -- a hub of the register over it was asked; a submission was of the bytes that were read
  pub record AsksIn (call : Call) (register : RegisterValue) (files : Files D) (before after : S)
      (told : Result Said NoHub) : Type 0 where
    pub bytes : Option (List ℕ)
    pub between : S
    pub reads : ReadsFor done before between call bytes
    pub asks : DoneIn done (λ left. AsksStore g files left register (asked call bytes))
        (λ left. OpensNone g files left register) of_store between after told

  -- the register and then the store are looked for at the places that the words name, to make
  -- a store
  abbrev pub InitComesTo : Places → S → S → Result Said NoHub → Type 0
  InitComesTo places = WithRegister done places.register.now (λ register.
      WithFiles done places.store.now purpose.Make (MakesIn register))

  -- they are looked for there, and a hub over the store is asked
  abbrev pub AskComesTo : Places → Call → S → S → Result Said NoHub → Type 0
  AskComesTo places call = WithRegister done places.register.now (λ register.
      WithFiles done places.store.now purpose.Use (AsksIn call register))

  -- the register is to grow to the one that is found at a path
  abbrev pub ExtendComesTo : Places → List ℕ → S → S → Result Said NoHub → Type 0
  ExtendComesTo places path = WithRegister done places.register.now (λ register.
      WithRegister done path (λ grown.
      WithFiles done places.store.now purpose.Use (GrowsIn register grown)))

  -- they are looked for there, and the store is migrated
  abbrev pub MigrateComesTo : Places → S → S → Result Said NoHub → Type 0
  MigrateComesTo places = WithRegister done places.register.now (λ register.
      WithFiles done places.store.now purpose.Migrate (MigratesIn register))
