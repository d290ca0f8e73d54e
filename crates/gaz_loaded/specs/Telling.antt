-- What a keeper tells when it lists what it keeps.
use Rattle.std.specs.Prelude.{◌≡◌, ◌≤◌, ◌<◌, ◌-◌, ⊤, ℕ, ℤ, true, List, [], ◌∷◌, IsSome}
use Rattle.std.specs.Prelude.{Option, Some, None, Result, length, slice_get}
use Rattle.std.specs.FinMap as map
use Rattle.std.specs.Global.{Vec}
use Rattle.std.specs.List.{All}
use Rattle.sqlite_rules.specs.Lists.{Has}
use Rattle.sqlite_trees.specs.Tree.{IsAscending}
use Rattle.gaz_records.specs.Items.{is_entry}
use Rattle.gaz_keeper.specs.Keeper.{Reads, Seen}
use Rattle.gaz_keeper.specs.Received.{Received}
use Rattle.gaz_keeper.specs.declared.fault.ShelfFault.{ShelfFault}
use Rattle.gaz_row_items.specs.Versions.{living}
use Rattle.gaz_loaded.specs.Lives.{IsBy, IsFirst, Told, gone_of}
use Rattle.gaz_loaded.specs.declared.listed.Life.{Life}

-- the last of a list
abbrev pub last_of : {X : Type 0} → List X → Option X
last_of xs = slice_get xs (length xs - 1)

-- ---- volumes

-- received volumes of a custodian above one, as they rise, with each up to the last of them; none
-- where there is none
pub record AreAbove (files : Received) (c volume : ℕ) (answer : List ℕ) : Type 0 where
  pub only : (v : ℕ) → Has answer v → (volume < v) × IsSome (map.get files (c, v))
  pub rising : IsAscending (λ a b. a < b) answer
  pub all : (last v : ℕ) → last_of answer ≡ Some last → volume < v → v ≤ last
      → IsSome (map.get files (c, v)) → Has answer v
  pub none : last_of answer ≡ None → (v : ℕ) → volume < v → ¬ IsSome (map.get files (c, v))

abbrev pub TellsVolumes : {K : Type 0} → (K → Seen) → K → K → Result (Vec ℕ) ShelfFault → ℕ → ℕ
    → Type 0
TellsVolumes seen old new result c volume =
    Reads (seen old) (seen new) result
    (λ volumes. AreAbove (seen old).content.files c volume volumes.items)

-- ---- lives

abbrev pub told : Life → Told
told x = record { place = x.place; code = x.code; life = living x.born (gone_of x.gone) x.item }

-- each is the first that is told behind those before it
abbrev pub AreInTurn : Option ℤ → List Told → List Life → Type 0
AreInTurn place all [] = ⊤
AreInTurn place all (x ∷ more) =
    IsFirst place all (told x) × AreInTurn (Some x.place) all more

-- each is of an entry
abbrev pub AreEntries : List Life → Type 0
AreEntries lives = All (λ life. is_entry life.item ≡ true) lives

-- lives behind a place, or none where there is none
pub record AreNext (place : Option ℤ) (all : List Told) (answer : List Life) : Type 0 where
  pub in_turn : AreInTurn place all answer
  pub none : last_of answer ≡ None → (x : Told) → Has all x → IsBy place x

-- what is told, and that it stays
pub record TellsLives {K : Type 0} (seen : K → Seen) (lives : K → List Told) (old new : K)
    (result : Result (Vec Life) ShelfFault) (place : Option ℤ) : Type 0 where
  pub reads : Reads (seen old) (seen new) result (λ answer. AreNext place (lives old) answer.items)
  pub stays : (seen old).stands → (seen new).unharmed → lives new ≡ lives old
