-- Worked examples on what words mean.
use Rattle.std.specs.Prelude.{◌≡◌, codes, List, [], ◌∷◌, ◌++◌, Ok}
use Rattle.std.specs.Borrow.{Bor}
use Rattle.clap.specs.Words.{Text, fault_of}
use Rattle.clap.specs.declared.error.kind.ErrorKind.TheVariants as kind
use Rattle.gaz_words.specs.Grammar.{gazhub}
use Rattle.gaz_words.specs.Meaning.{Means}
use Rattle.gaz_words.specs.declared.command.Call.TheVariants.{Extract, Line, Status, Submit}
use Rattle.gaz_words.specs.declared.command.Command.{Command}
use Rattle.gaz_words.specs.declared.command.Command.TheVariants.{Ask, Extend, Init, Migrate}
use Rattle.gaz_words.specs.declared.command.Command.TheVariants.{Play, Serve}
use Rattle.gaz_words.specs.declared.command.Places.{Places}

-- words for a store and its register, which come first or last, apart or joined
abbrev pub at_places : List Text
at_places = codes "--store" ∷ codes "hub.db" ∷ codes "--register" ∷ codes "hub.toml" ∷ []

abbrev pub joined_places : List Text
joined_places = codes "--register=hub.toml" ∷ codes "--store=hub.db" ∷ []

abbrev pub making : List Text
making = codes "init" ∷ at_places

abbrev pub submitting : List Text
submitting = codes "submit"
    ∷ (at_places ++ codes "1001" ∷ codes "2" ∷ codes "names.csv" ∷ [])

abbrev pub serving_at : Text → List Text
serving_at port =
    codes "serve" ∷ (at_places ++ codes "--port" ∷ port ∷ codes "--connections" ∷ codes "9" ∷ [])

-- these are the paths
abbrev pub ArePlaces : Places → Type 0
ArePlaces places =
    (places.store.now ≡ codes "hub.db") × (places.register.now ≡ codes "hub.toml")

-- a store is made there
abbrev pub IsMade : Command → Type 0
IsMade command = (places : Places) × (command ≡ Init places) × ArePlaces places

pub record WorkedWords : Type 0 where
  -- words in which no fault is found mean one command, and no other
  pub fine : fault_of gazhub making ≡ []
  pub makes : (places : Places) → ArePlaces places → Means making (Ok (Init places))
  pub nothing_else : (command : Command) → Means making (Ok command) → IsMade command
  -- each word of a submission goes to its own argument
  pub submits : (places : Places) (code volume file : Bor Text) → ArePlaces places
      → code.now ≡ codes "1001" → volume.now ≡ codes "2" → file.now ≡ codes "names.csv"
      → Means submitting (Ok (Ask places (Submit code volume file)))
  pub not_swapped : (places : Places) (code volume file : Bor Text)
      → code.now ≡ codes "2" → ¬ Means submitting (Ok (Ask places (Submit code volume file)))
  -- a path may stand before or behind what has its place, and be joined to its word by `=`
  pub behind : (places : Places) (uprn : Bor Text) → ArePlaces places → uprn.now ≡ codes "42"
      → Means (codes "line" ∷ codes "42" ∷ joined_places) (Ok (Ask places (Line uprn)))
  -- behind `--` a word may begin with a hyphen
  pub hyphen : (places : Places) (uprn : Bor Text) → ArePlaces places → uprn.now ≡ codes "-1"
      → Means (codes "line" ∷ (at_places ++ codes "--" ∷ codes "-1" ∷ []))
      (Ok (Ask places (Line uprn)))
  -- so it is of each other command
  pub asks_standing : (places : Places) (code : Bor Text) → ArePlaces places
      → code.now ≡ codes "1001"
      → Means (codes "status" ∷ codes "1001" ∷ joined_places) (Ok (Ask places (Status code)))
  pub asks_extract : (places : Places) (code volume : Bor Text) → ArePlaces places
      → code.now ≡ codes "1001" → volume.now ≡ codes "2"
      → Means (codes "extract" ∷ codes "1001" ∷ codes "2" ∷ joined_places)
      (Ok (Ask places (Extract code volume)))
  pub grows : (places : Places) (grown : Bor Text) → ArePlaces places
      → grown.now ≡ codes "grown.toml"
      → Means (codes "extend" ∷ codes "--grown=grown.toml" ∷ joined_places)
      (Ok (Extend places grown))
  pub migrates : (places : Places) → ArePlaces places
      → Means (codes "migrate" ∷ at_places) (Ok (Migrate places))
  -- numbers are read, and have a greatest
  pub serves : (places : Places) → ArePlaces places → Means (serving_at (codes "8080"))
      (Ok (Serve places (record { port = 8080; connections = 9 })))
  pub no_port : fault_of gazhub (serving_at (codes "65536")) ≡ kind.ValueValidation ∷ []
  -- no command is a conversation; what isn't there, is too much or is unknown is a fault, and so
  -- is what asks for help
  pub nothing : Means [] (Ok Play)
  pub plays : Means (codes "play" ∷ []) (Ok Play)
  pub no_store : fault_of gazhub (codes "init" ∷ codes "--register=hub.toml" ∷ [])
      ≡ kind.MissingRequiredArgument ∷ []
  pub two_stores : fault_of gazhub (codes "init" ∷ (at_places ++ codes "--store=other.db" ∷ []))
      ≡ kind.ArgumentConflict ∷ []
  pub unknown : fault_of gazhub (codes "sumbit" ∷ [])
      ≡ kind.UnknownArgument ∷ kind.InvalidSubcommand ∷ []
  pub help : fault_of gazhub (codes "--help" ∷ []) ≡ kind.DisplayHelp ∷ []
