-- How often a command opened a store's files, and what was done over them each time.
use Rattle.std.specs.Prelude.{◌++◌, ℕ, Bool, true, false, List, [], ◌∷◌, Option, Some, None}
use Rattle.std.specs.Prelude.{Result, Ok, Err, IfOk, IfErr, IsSomeAnd}
use Rattle.std.specs.declared.marker.Brand.{Brand}
use Rattle.sqlite.specs.Files.{over_files}
use Rattle.sqlite.specs.Held.{Held}
use Rattle.sqlite_disk.specs.declared.Disk as disk
use Rattle.sqlite_disk.specs.declared.Files.{Files}
use Rattle.sqlite_store.specs.declared.store.FileStore.{FileStore}
use Rattle.gaz_register.specs.Registers.{IsRegister, RegisterValue}
use Rattle.gaz_kept.specs.declared.refusal.StoreRefusal.{StoreRefusal}
use Rattle.gaz_store.specs.Opened.{IsRefused}
use Rattle.gaz_store.specs.declared.store.Store.{Store}
use Rattle.gaz_exchange.specs.Conversing.{Transfer}
use Rattle.gaz_stored.specs.Calls.{CameTo, Grew, Moved, Refused, Used}
use Rattle.gaz_stored.specs.Ways.{Way}
use Rattle.gaz_words.specs.declared.command.Command.{Command}
use Rattle.gaz_words.specs.declared.command.Command.TheVariants.{Play, Init, Ask, Serve}
use Rattle.gaz_words.specs.declared.command.Command.TheVariants.{Extend, Migrate}
use Rattle.gaz_words.specs.declared.command.Places.{Places}
use Rattle.gaz_filing.specs.Filing.{Declines, FailsToConnect, HandedBack, Makes, NoConnection}
use Rattle.gaz_filing.specs.Filing.{OpensNone, OverFiles, UsesStore}
use Rattle.gaz_filing.specs.Joined.{said_as}
use Rattle.gazhub.specs.Commands.{Ends, EndsAt, EndsByMeaning}
use Rattle.gazhub.specs.Commands.{Explained, Followed}
use Rattle.gazhub.specs.Serving.{Begins, More, NeverBegins, NeverTold, NoMore, ServeComesTo}
use Rattle.gazhub.specs.Serving.{ServesOnce, ServesRest, Untold, Whole}
use Rattle.gazhub.specs.Sites.{Deed, HasFiles, HasRegister, NoFiles, NoRegister, WithFiles}
use Rattle.gazhub.specs.Sites.{WithRegister}
use Rattle.gazhub.specs.Working.{DoneIn}
use Rattle.gazhub.specs.declared.ending.Ending.{Ending}
use Rattle.gazhub.specs.declared.files.NoHub.{NoHub}
use Rattle.gazhub.specs.declared.site.Purpose.{Purpose}

module _ {D : Type 0} (g : disk.Ghosts D) where
  -- what was done over a connection to a store's files: a call, or a store was made
  pub data Did (conn after : Held (FileStore D g)) : Type 0 where
    Called : CameTo over_files conn after → Did conn after
    MadeStore : (register : RegisterValue) → IsRegister register → Makes g register conn after
        → Did conn after

  -- what was done over files that were opened, and those that were given back; or there was no
  -- connection to a database
  pub data DoneOver (files : Files D) (left : Option (Files D)) : Type 0 where
    Over : OverFiles g files left Did → DoneOver files left
    Unconnected : IsSomeAnd left (FailsToConnect g files) → DoneOver files left

  -- an opening of them
  pub record Opening : Type 0 where
    pub files : Files D
    pub left : Option (Files D)
    pub over : DoneOver files left

  -- ---- what each call says was done

  abbrev pub made_over : {files : Files D} {left : Option (Files D)} (register : RegisterValue)
      → IsRegister register → OverFiles g files left (Makes g register) → DoneOver files left
  made_over register is makes = Over (said_as g (λ conn after it. MadeStore register is it) makes)

  -- a call came to this
  abbrev pub called_over : {files : Files D} {left : Option (Files D)}
      {Does : Held (FileStore D g) → Held (FileStore D g) → Type 0}
      → ((conn after : Held (FileStore D g)) → Does conn after → CameTo over_files conn after)
      → OverFiles g files left Does → DoneOver files left
  called_over came over = Over (said_as g (λ conn after it. Called (came conn after it)) over)

  -- a hub was used over the store that was there, whichever way
  abbrev pub used_over : {files : Files D} {left : Option (Files D)} (register : RegisterValue)
      {way : Way (Store (FileStore D g) Brand over_files)} → IsRegister register
      → UsesStore g files left register way → DoneOver files left
  used_over register is = called_over (λ conn after it.
      Used register it.first it.commands it.responses is it.uses)

  -- where there is no store there was no connection, or a call that was refused
  abbrev pub declined : {files : Files D} {left : Option (Files D)} {refusal : StoreRefusal}
      {Why : Held (FileStore D g) → Held (FileStore D g) → Type 0}
      → ((conn after : Held (FileStore D g)) → Why conn after → IsRefused over_files conn after)
      → Declines g files left refusal Why → DoneOver files left
  declined so (NoConnection is fails) = Unconnected fails
  declined so (HandedBack over) =
      called_over (λ conn after why. Refused (so conn after why)) over

  -- so it is where there is none of the register
  abbrev pub opens_none : {files : Files D} {left : Option (Files D)} (register : RegisterValue)
      (refusal : StoreRefusal) → OpensNone g files left register refusal → DoneOver files left
  opens_none register refusal = declined (λ conn after it. it.refused)

  -- what was to be done, or why there was no store
  abbrev pub over_in : {T : Type 0} {files : Files D} {left : Option (Files D)} {Does : T → Type 0}
      {Lacks : StoreRefusal → Type 0} (held : Result T StoreRefusal)
      → IfOk held Does → IfErr held Lacks → ((told : T) → Does told → DoneOver files left)
      → ((refusal : StoreRefusal) → Lacks refusal → DoneOver files left) → DoneOver files left
  over_in (Ok told) does lacks done none = done told does
  over_in (Err refusal) does lacks done none = none refusal lacks

  -- Below, done says of a site between which states a deed can be.
  module _ {S : Type 0} (done : S → Deed D → S → Type 0) where
    -- what was done over the files that a command opened
    abbrev pub opening_in : {T A : Type 0} {Does : Option (Files D) → T → Type 0}
        {Lacks : Option (Files D) → StoreRefusal → Type 0}
        {said_of : Result T StoreRefusal → Result A NoHub} {before after : S}
        {told : Result A NoHub} (files : Files D)
        (it : DoneIn done Does Lacks said_of before after told)
        → ((how : T) → Does it.left how → DoneOver files it.left)
        → ((refusal : StoreRefusal) → Lacks it.left refusal → DoneOver files it.left) → Opening
    opening_in files it does lacks = record {
      files = files;
      left = it.left;
      over = over_in it.held it.does it.lacks does lacks;
    }

    -- ---- which openings a command made

    -- none, or where the register is found those behind that
    abbrev pub with_register : {A : Type 0} {path : List ℕ}
        {Then : RegisterValue → S → S → Result A NoHub → Type 0} {before after : S}
        {told : Result A NoHub}
        → ((register : RegisterValue) → IsRegister register → (between : S)
        → Then register between after told → List Opening)
        → WithRegister done path Then before after told → List Opening
    with_register then (NoRegister why finds is) = []
    with_register then (HasRegister register between finds follows) =
        then register finds.is_one between follows

    -- none, or where the files could be opened the one over these
    abbrev pub with_files : {A : Type 0} {path : List ℕ} {purpose : Purpose}
        {Then : Files D → S → S → Result A NoHub → Type 0} {before after : S}
        {told : Result A NoHub}
        → ((files : Files D) (between : S) → Then files between after told → Opening)
        → WithFiles done path purpose Then before after told → List Opening
    with_files then (NoFiles opened is) = []
    with_files then (HasFiles files between opened follows) = then files between follows ∷ []

    module _ (places : Places) (port : ℕ) where
      -- where connections are answered, until something fails
      abbrev pub opened_by_serving_once : {connections : ℕ} {had has : Option (List ℕ)}
          {before after : S} {told : Result (Option ℕ) NoHub}
          → ServesOnce done g places port connections had has before after told → List Opening
      opened_by_serving_once = with_register (λ register is found.
          with_files (λ files opened it. opening_in files it.serves
          (λ how serves. used_over register is serves) (opens_none register)))

      -- those behind the first
      abbrev pub opened_by_serving_rest : {left : ℕ} {before after : S} {ending : Ending}
          → ServesRest done g places port left before after ending → List Opening
      opened_by_serving_rest (Whole site) = []
      opened_by_serving_rest (More left served before between after ending once rest) =
          opened_by_serving_once once ++ opened_by_serving_rest rest
      opened_by_serving_rest (Untold left before after once) = opened_by_serving_once once
      opened_by_serving_rest (NoMore left before after why once) = opened_by_serving_once once

      -- the first, and those behind it
      abbrev pub opened_by_serving : {connections : ℕ} {had has : Option (List ℕ)}
          {before after : S} {ending : Ending}
          → ServeComesTo done g places port connections had has before after ending
          → List Opening
      opened_by_serving (NeverBegins why once) = opened_by_serving_once once
      opened_by_serving (NeverTold once) = opened_by_serving_once once
      opened_by_serving (Begins served between ending once rest) =
          opened_by_serving_once once ++ opened_by_serving_rest rest

    -- Below, a conversation is held at a hub of the register that the text describes, with at most
    -- so many requests; and before and after are states of the site.
    module _ (text : List ℕ) (most : ℕ) (before after : S) (through : Transfer) where
      -- a conversation opens none
      abbrev pub opened_by_command : (command : Command) (ending : Ending)
          → EndsAt done g text most before after through command ending → List Opening
      opened_by_command Play ending it = []
      opened_by_command (Init places) ending it = with_register (λ register is found.
          with_files (λ files opened makes. opening_in files makes
          (λ said it. made_over register is it.1)
          (λ refusal. declined (λ conn after why. why.refused)))) it.works
      opened_by_command (Ask places call) ending it = with_register (λ register is found.
          with_files (λ files opened it. opening_in files it.asks
          (λ said asks. used_over register is asks) (opens_none register))) it.works
      opened_by_command (Serve places serving) ending it =
          opened_by_serving places serving.port it.0
      opened_by_command (Extend places path) ending it = with_register (λ register is found.
          with_register (λ grown are found.
          with_files (λ files opened grows. opening_in files grows
          (λ how. called_over (λ conn after it. Grew register grown how is are it))
          (opens_none register)))) it.works
      opened_by_command (Migrate places) ending it = with_register (λ register is found.
          with_files (λ files opened migrates. opening_in files migrates
          (λ how. called_over (λ conn after it. Moved register how it.0))
          (λ refusal. declined (λ conn after why. why.0.refused)))) it.works

      -- nor does what is explained
      abbrev pub opened_by_meaning : {words : List (List ℕ)} {ending : Ending}
          → EndsByMeaning done g text most before after through words ending → List Opening
      opened_by_meaning {words} {ending} (Followed command means ends) =
          opened_by_command command ending ends
      opened_by_meaning (Explained error means explains) = []

      -- none where the words or random bytes can't be read
      abbrev pub opened_by_words : (words : Option (List (List ℕ))) (random : Bool)
          (ending : Ending) → Ends done g text most before after through words random ending
          → List Opening
      opened_by_words None random ending it = []
      opened_by_words (Some words) false ending it = []
      opened_by_words (Some words) true ending it = opened_by_meaning it
