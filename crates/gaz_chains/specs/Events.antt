-- What became of one number.
use Rattle.std.specs.Prelude.{◌≡◌, ℕ, ◌==◌, List, [], ◌++◌}
use Rattle.std.specs.Prelude.{Option, Some, None, slice_get, if◌then◌else◌}
use Rattle.std.specs.List.{last_or}
use Rattle.gaz_views.specs.declared.custody.Custody.{Custody}

-- each custodian's releases and adoptions of a number, in the order in which they came
abbrev pub Events : Type 0
Events = ℕ → List Custody

-- one of several
abbrev pub Has : {X : Type 0} → List X → X → Type 0
Has xs x = (i : ℕ) × (slice_get xs i ≡ Some x)

abbrev pub no_events : Events
no_events = λ c. []

-- the course of a number: each event with its custodian, in the order in which they came
abbrev pub Course : Type 0
Course = List (ℕ × Custody)

-- the last of a custodian's
abbrev pub newest : List Custody → Option Custody
newest es = last_or None es

-- these events of a custodian come last
abbrev pub appended : Events → ℕ → List Custody → Events
appended events c es = λ other. if other == c then events other ++ es else events other
