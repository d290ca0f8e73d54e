-- Which volumes of a custodian were received, one after the other.
use Rattle.std.specs.Prelude.{◌≡◌, ◌≤◌, ◌<◌, ℕ, pos, List, [], length, map, IsSome}
use Rattle.std.specs.FinMap as finite
use Rattle.sqlite.specs.declared.types.Value.{Value}
use Rattle.sqlite.specs.declared.types.Value.TheVariants.{Int}
use Rattle.sqlite.specs.Order.{Row, column}
use Rattle.sqlite_rules.specs.Lists.{Has}
use Rattle.sqlite_trees.specs.Tree.{IsAscending}
use Rattle.gaz_ids.specs.Limits.{last_volume}
use Rattle.gaz_keeper.specs.Received.{Received}
use Rattle.gaz_answers.specs.Answers.{most_rows}

abbrev pub whole : ℕ → Value
whole n = Int (pos n)

-- each row says a volume, and these are they in turn
abbrev pub SayVolumes : List Row → List ℕ → Type 0
SayVolumes rows volumes = map (λ r. column r 0) rows ≡ map whole volumes

-- a row says a volume that a custodian may send
pub record ShowsVolume (r : Row) : Type 0 where
  pub volume : ℕ
  pub said : column r 0 ≡ Int (pos volume)
  pub first : 1 ≤ volume
  pub last : volume ≤ last_volume

abbrev pub WasReceived : Received → ℕ → ℕ → Type 0
WasReceived files c volume = IsSome (finite.get files (c, volume))

-- these are a custodian's received volumes above one, from the first on, with none left out between
pub record TellsVolumes (files : Received) (c above : ℕ) (volumes : List ℕ) : Type 0 where
  pub received : (v : ℕ) → Has volumes v → WasReceived files c v
  pub higher : (v : ℕ) → Has volumes v → above < v
  -- each that isn't above one of them is told
  pub complete : (v last : ℕ) → WasReceived files c v → above < v → Has volumes last → v ≤ last
      → Has volumes v
  pub rising : IsAscending (λ a b. a < b) volumes
  -- there is none only where none is left
  pub ends : volumes ≡ [] → (v : ℕ) → above < v → ¬ WasReceived files c v
  pub few : length volumes ≤ most_rows
