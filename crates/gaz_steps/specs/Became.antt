-- What became of a number on a board: the releases and adoptions in its applied files.
use Rattle.std.specs.Prelude.{ℕ, ◌+◌, List, [], ◌∷◌, ◌++◌, Option, Some, None}
use Rattle.std.specs.List.{filter_map}
use Rattle.std.specs.Option.{option_map}
use Rattle.std.specs.FinMap as map
use Rattle.gaz_changefile.specs.Reading.{Bad, Good, Reading, reading}
use Rattle.gaz_changefile.specs.declared.change.Change.{Change}
use Rattle.gaz_chains.specs.Events.{Events}
use Rattle.gaz_keeper.specs.Board.{Board, Judgement}
use Rattle.gaz_keeper.specs.Received.{Received}
use Rattle.gaz_rules.specs.Passing.{made_of}
use Rattle.gaz_views.specs.declared.custody.Custody.{Custody}
use Rattle.gaz_views.specs.declared.verdict.Verdict.{Verdict}
use Rattle.gaz_views.specs.declared.verdict.Verdict.TheVariants.{Applied, Rejected}

-- what changes make of the number
abbrev pub made_by : ℕ → List Change → List Custody
made_by uprn changes = filter_map (λ c. made_of uprn c.item) changes

-- what a file makes of it that was received and has this verdict
abbrev pub made_in : ℕ → Option Reading → Verdict → List Custody
made_in uprn None verdict = []
made_in uprn (Some (Bad place rule)) verdict = []
made_in uprn (Some (Good file)) Applied = made_by uprn file.changes
made_in uprn (Some (Good file)) (Rejected place rule) = []

-- how the file of a custodian and a volume reads, where it was received
abbrev pub reading_at : Received → ℕ → ℕ → Option Reading
reading_at files c volume =
    option_map (λ bytes. reading bytes c volume) (map.get files (c, volume))

-- what these judgements make of it, where the first is of the volume after this one
abbrev pub made_from : Received → ℕ → ℕ → ℕ → List Judgement → List Custody
made_from files uprn c volume [] = []
made_from files uprn c volume (j ∷ js) =
    made_in uprn (reading_at files c (volume + 1)) j.verdict
    ++ made_from files uprn c (volume + 1) js

-- each custodian's releases and adoptions of the number in its applied files
abbrev pub became : Received → Board → ℕ → Events
became files board uprn = λ c. made_from files uprn c 0 (board c)
