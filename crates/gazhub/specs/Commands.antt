-- What the program does at its words, and how it ends.
use Rattle.std.specs.Prelude.{◌≡◌, ℕ, Bool, true, false, if◌then◌else◌, List, Option, Some, None}
use Rattle.std.specs.Prelude.{Result, Ok, Err}
use Rattle.std.specs.Io.KnownBytes.{Appends, Keeps}
use Rattle.clap.specs.declared.error.Error.{Error}
use Rattle.clap.specs.declared.error.kind.ErrorKind.{ErrorKind}
use Rattle.clap.specs.declared.error.kind.ErrorKind.TheVariants as kind
use Rattle.sqlite_disk.specs.declared.Disk as disk
use Rattle.gaz_commands.specs.Saying.{is_said_done, text_of}
use Rattle.gaz_commands.specs.declared.said.Said.{Said}
use Rattle.gaz_commands.specs.declared.said.Said.TheVariants as said
use Rattle.gaz_exchange.specs.Conversing.{Transfer}
use Rattle.gaz_http.specs.Writing.{IsPut}
use Rattle.gaz_exchange.specs.declared.conversation.Served.{Served}
use Rattle.gaz_http.specs.declared.supply.Cause.{Cause}
use Rattle.gaz_http.specs.declared.supply.Cause.TheVariants as cause
use Rattle.gaz_stored.specs.Unheard.{IsUnheard}
use Rattle.gaz_words.specs.Meaning.{Means}
use Rattle.gaz_words.specs.declared.command.Command.{Command}
use Rattle.gaz_words.specs.declared.command.Command.TheVariants.{Play, Init, Ask, Serve}
use Rattle.gaz_words.specs.declared.command.Command.TheVariants.{Extend, Migrate}
use Rattle.gazhub.specs.Endings.{is_silent, line_of, status_of}
use Rattle.gazhub.specs.Playing.{Plays}
use Rattle.gazhub.specs.Serving.{ServeComesTo}
use Rattle.gazhub.specs.Sites.{Deed}
use Rattle.gazhub.specs.Working.{AskComesTo, ExtendComesTo, InitComesTo, MigrateComesTo}
use Rattle.gazhub.specs.declared.ending.Ending.{Ending}
use Rattle.gazhub.specs.declared.ending.Ending.TheVariants.{Done, NotDone, Usage, Memory}
use Rattle.gazhub.specs.declared.ending.Ending.TheVariants.{ReadFault, WriteFault, NoHub, Failed}
use Rattle.gazhub.specs.declared.files.NoHub.{NoHub as WhyNoHub}

-- a conversation stopped for this cause
abbrev pub StopsFor : Cause → List ℕ → ℕ → Transfer → Type 0
StopsFor why text most through =
    (requests : ℕ) × Plays text most through (Err (record { requests = requests; cause = why }))

-- how a conversation ends, at a hub of the register that the text describes, with at most so many
-- requests
abbrev pub Holds : List ℕ → ℕ → Transfer → Ending → Type 0
Holds text most through Done = (served : Served) × Plays text most through (Ok served)
Holds text most through Memory = IsUnheard through
Holds text most through ReadFault = StopsFor cause.ReadFault text most through
Holds text most through WriteFault = StopsFor cause.WriteFault text most through
Holds text most through _ = ⊥

-- nothing was read; and nothing was printed, at usage and at faults but that of the output and that
-- of a hub that was lost
pub record StaysSilent (through : Transfer) (ending : Ending) : Type 0 where
  pub read : Keeps through.had through.left
  pub printed : is_silent ending ≡ true → Keeps through.held through.holds

-- what a command says was printed, and the program ends by whether what was asked for was done,
-- unless the output failed; of a fault nothing is printed
abbrev pub IsTold : Option (List ℕ) → Option (List ℕ) → Said → Ending → Type 0
IsTold held holds (said.Failed fault) ending = (ending ≡ Failed fault) × Keeps held holds
IsTold held holds said WriteFault = Unit {0}
IsTold held holds said ending =
    Appends held holds (text_of said)
    × (ending ≡ (if is_said_done said then Done else NotDone))

-- how the program ends where a command came to this, or there was no hub
abbrev pub IsFinished : Option (List ℕ) → Option (List ℕ) → Result Said WhyNoHub → Ending → Type 0
IsFinished held holds (Ok said) ending = IsTold held holds said ending
IsFinished held holds (Err why) ending = (ending ≡ NoHub why) × Keeps held holds

-- a command came to something, and the program ends by it
pub record Finishes (Works : Result Said WhyNoHub → Type 0) (through : Transfer) (ending : Ending)
    : Type 0 where
  pub told : Result Said WhyNoHub
  pub works : Works told
  pub finished : IsFinished through.held through.holds told ending
  pub silent : StaysSilent through ending

-- how the program ends where help, or the version, is asked for; what is printed isn't said
abbrev pub IsShown : Ending → Type 0
IsShown Done = Unit {0}
IsShown WriteFault = Unit {0}
IsShown _ = ⊥

-- how the program ends where the words mean no command, by the kind of what `clap` tells of them
abbrev pub IsExplained : ErrorKind → Ending → Type 0
IsExplained kind.OutOfMemory ending = ending ≡ Memory
IsExplained kind.DisplayHelp ending = IsShown ending
IsExplained kind.DisplayVersion ending = IsShown ending
IsExplained _ ending = ending ≡ Usage

-- Below, done says of a site between which states a deed can be, and g is what is seen of the disk
-- on which the store at a path is; before and after are states of the site; and a conversation is
-- held at a hub of the register that the text describes, with at most so many requests.
module _ {S D : Type 0} (done : S → Deed D → S → Type 0) (g : disk.Ghosts D) (text : List ℕ)
    (most : ℕ) (before after : S) (through : Transfer) where
  -- how the program ends, by the command; for a conversation nothing is done at a site
  abbrev pub EndsAt : Command → Ending → Type 0
  EndsAt Play ending = Holds text most through ending × (after ≡ before)
  EndsAt (Init places) ending = Finishes (InitComesTo done g places before after) through ending
  EndsAt (Ask places call) ending =
      Finishes (AskComesTo done g places call before after) through ending
  EndsAt (Serve places serving) ending =
      ServeComesTo done g places serving.port serving.connections through.held through.holds
      before after ending × StaysSilent through ending
  EndsAt (Extend places path) ending =
      Finishes (ExtendComesTo done g places path.now before after) through ending
  EndsAt (Migrate places) ending =
      Finishes (MigrateComesTo done g places before after) through ending

  -- how the program ends where help is asked for, or the words are at fault; nothing is done
  pub record Explains (error : Error) (ending : Ending) : Type 0 where
    pub explained : IsExplained error.kind ending
    pub silent : StaysSilent through ending
    pub still : after ≡ before

  -- what the words mean is done, or explained
  pub data EndsByMeaning (words : List (List ℕ)) (ending : Ending) : Type 0 where
    Followed : (command : Command) → Means words (Ok command) → EndsAt command ending
        → EndsByMeaning words ending
    Explained : (error : Error) → Means words (Err error) → Explains error ending
        → EndsByMeaning words ending

  -- nothing was asked, since the words or random bytes couldn't be read
  abbrev pub EndsUnasked : Ending → Type 0
  EndsUnasked ending = ((ending ≡ ReadFault) × IsUnheard through) × (after ≡ before)

  -- how the program ends by its words, none where they can't be read, and by whether the system
  -- gave random bytes
  abbrev pub Ends : Option (List (List ℕ)) → Bool → Ending → Type 0
  Ends None random ending = EndsUnasked ending
  Ends (Some words) false ending = EndsUnasked ending
  Ends (Some words) true ending = EndsByMeaning words ending

-- how the program ends, where `clap` may have told of the usage instead
abbrev pub ending_of : {E : Type 0} → Result Ending E → Ending
ending_of (Ok ending) = ending
ending_of (Err usage) = Usage

-- the line, or where the writer failed a front of it, was written behind what the writer held
pub record Reports (held holds : Option (List ℕ)) (line : List ℕ) : Type 0 where
  pub whole : Bool
  pub put : IsPut held holds line whole

-- the line that names a fault was written; at usage it is the text of `clap`
abbrev pub IsReported : Option (List ℕ) → Option (List ℕ) → Ending → Type 0
IsReported heard hears Usage = Unit {0}
IsReported heard hears ending = Reports heard hears (line_of ending)

-- the program at these words ends with this status; heard and hears are what standard error held
-- and holds
pub record Commands {S D : Type 0} (done : S → Deed D → S → Type 0) (g : disk.Ghosts D)
    (text : List ℕ) (most : ℕ) (words : Option (List (List ℕ))) (random : Bool) (before after : S)
    (through : Transfer) (heard hears : Option (List ℕ)) (status : ℕ) : Type 0 where
  pub ending : Ending
  pub ends : Ends done g text most before after through words random ending
  pub reports : IsReported heard hears ending
  pub status_is : status ≡ status_of ending
