-- What words mean: the command that they name, with the words that are written for its arguments.
use Rattle.std.specs.Prelude.{◌≡◌, ℕ, true, codes, List, [], ◌∷◌, Option, Some, None}
use Rattle.std.specs.Prelude.{Result, Ok, Err, bytes_eq, filter, find, is_some}
use Rattle.std.specs.List.{AllByRecursion, list_any}
use Rattle.std.specs.Option.{option_map_or}
use Rattle.std.specs.Str.Parse.{IsNumeral, digits_value, without_leading_plus}
use Rattle.clap.specs.Takes.{value_passes}
use Rattle.clap.specs.Walk.{reading_by}
use Rattle.clap.specs.Words.{HasKind, IsUnsignedIn, Row, Rule, Shape, Text, built, fault_of}
use Rattle.clap.specs.Words.{first_of, one_of, read_as, subcommand_of}
use Rattle.clap.specs.declared.error.Error.{Error}
use Rattle.gaz_words.specs.Grammar.{gazhub}
use Rattle.gaz_words.specs.declared.command.Call.{Call}
use Rattle.gaz_words.specs.declared.command.Call.TheVariants.{Submit, Status, Line, Extract}
use Rattle.gaz_words.specs.declared.command.Command.{Command}
use Rattle.gaz_words.specs.declared.command.Command.TheVariants.{Play, Init, Ask, Serve, Extend}
use Rattle.gaz_words.specs.declared.command.Command.TheVariants.{Migrate}
use Rattle.gaz_words.specs.declared.command.Places.{Places}

-- the commands' names
abbrev pub names : List Text
names = codes "play" ∷ codes "init" ∷ codes "submit" ∷ codes "status" ∷ codes "line"
    ∷ codes "extract" ∷ codes "serve" ∷ codes "extend" ∷ codes "migrate" ∷ []

-- this word was written for the argument of this name
abbrev pub IsAt : List Row → Text → Text → Type 0
IsAt rows name word = first_of name rows ≡ Some word

-- this number was written for the argument of this name, where a plus may stand first
abbrev pub IsNumberAt : List Row → Text → ℕ → Type 0
IsNumberAt rows name n = (word : Text) × IsAt rows name word
    × IsNumeral 10 (without_leading_plus word) × (n ≡ digits_value 10 (without_leading_plus word))

-- these paths were written for `--store` and `--register`
abbrev pub AreAt : List Row → Places → Type 0
AreAt rows places =
    IsAt rows (codes "store") places.store.now × IsAt rows (codes "register") places.register.now

-- a hub is asked this
abbrev pub IsCall : Text → List Row → Call → Type 0
IsCall name rows (Submit code volume file) = (name ≡ codes "submit")
    × IsAt rows (codes "CODE") code.now × IsAt rows (codes "VOLUME") volume.now
    × IsAt rows (codes "FILE") file.now
IsCall name rows (Status code) = (name ≡ codes "status") × IsAt rows (codes "CODE") code.now
IsCall name rows (Line uprn) = (name ≡ codes "line") × IsAt rows (codes "UPRN") uprn.now
IsCall name rows (Extract code volume) = (name ≡ codes "extract")
    × IsAt rows (codes "CODE") code.now × IsAt rows (codes "VOLUME") volume.now

-- the command of this name, of the words that were written for its arguments
abbrev pub IsNamed : Text → List Row → Command → Type 0
IsNamed name rows Play = name ≡ codes "play"
IsNamed name rows (Init places) = (name ≡ codes "init") × AreAt rows places
IsNamed name rows (Ask places call) = AreAt rows places × IsCall name rows call
IsNamed name rows (Serve places serving) = (name ≡ codes "serve") × AreAt rows places
    × IsNumberAt rows (codes "port") serving.port
    × IsNumberAt rows (codes "connections") serving.connections
IsNamed name rows (Extend places grown) =
    (name ≡ codes "extend") × AreAt rows places × IsAt rows (codes "grown") grown.now
IsNamed name rows (Migrate places) = (name ≡ codes "migrate") × AreAt rows places

-- a conversation where no command is named
abbrev pub Names : Option (Text × List Row) → Command → Type 0
Names None command = command ≡ Play
Names (Some named) command = IsNamed named.0 named.1 command

-- words in which `clap` finds no fault name this command, as it matches them; of others it is told
-- which kind of fault is the first, or that there was no memory
abbrev pub Means : List Text → Result Command Error → Type 0
Means words (Ok command) =
    (fault_of gazhub words ≡ []) × Names (subcommand_of gazhub words) command
Means words (Err error) = HasKind (fault_of gazhub words) error

-- ---- what is there once words are taken

-- a word was written for an argument, is read as that argument's are, and passes as one
abbrev pub IsGiven : List Row → Rule → Type 0
IsGiven rows rule = (word : Text) × IsAt rows rule.id word
    × (one_of rule.id rows ≡ Some (read_as (reading_by rule) word))
    × (value_passes rule word ≡ true)

-- the arguments that a command has to be given
abbrev pub wanted_by : Shape → List Rule
wanted_by shape = filter (λ rule. rule.required) shape.rules

-- by its name, with what `clap` adds to it
abbrev pub wanted : Text → List Rule
wanted name =
    option_map_or wanted_by (find (λ shape. bytes_eq shape.name name) (built gazhub).subs) []

-- a command has this name, and each of those arguments was written
abbrev pub IsComplete : Text → List Row → Type 0
IsComplete name rows = (list_any (λ known. bytes_eq known name) names ≡ true)
    × AllByRecursion (IsGiven rows) (wanted name)

-- a word was written for each of these arguments
abbrev pub HaveWords : List Row → List Text → Type 0
HaveWords rows = AllByRecursion (λ name. is_some (first_of name rows) ≡ true)

-- a number up to this was written for an argument
abbrev pub HasNumber : List Row → Text → ℕ → Type 0
HasNumber rows name most = (word : Text) × IsAt rows name word × (one_of name rows ≡ Some word)
    × IsUnsignedIn 0 most word
