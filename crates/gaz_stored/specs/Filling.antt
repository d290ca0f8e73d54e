-- A keeper that is filled with what another keeps.
use Rattle.std.specs.Prelude.{◌≡◌, ◌≤◌, ℕ, List, IsSome, map}
use Rattle.std.specs.FinMap as finite
use Rattle.gaz_register.specs.Registers.{CustodianValue, RegisterValue}
use Rattle.gaz_keeper.specs.Keeper.{Idle, Seen}
use Rattle.gaz_keeper.specs.Received.{Received}
use Rattle.gaz_shelf.specs.Mem.{seen_in}
use Rattle.gaz_shelf.specs.declared.mem_shelf.MemShelf.{MemShelf}
use Rattle.gaz_loaded.specs.Loading.{IsLoaded}
pub use Rattle.gaz_mirror.specs.Bare.{RestsBare}
use Rattle.gaz_steps.specs.Hubs.{StandsFor}
use Rattle.gaz_steps.specs.Runs.{Run}
use Rattle.gaz_steps.specs.Step.{Command, Door, HubState, Response}

-- each file came as a volume from 1 on
abbrev pub AreVolumes : Received → Type 0
AreVolumes files = (p : ℕ × ℕ) → IsSome (finite.get files p) → 1 ≤ p.1

-- they do after whatever commands come to a hub
abbrev pub VolumesStay : Type 0
VolumesStay =
    (door : Door) (old new : HubState) (commands : List Command) (responses : List Response)
    → AreVolumes old.received → Run door old commands responses new → AreVolumes new.received

-- a keeper stands for a partial run, of files that came as volumes from 1 on
pub record CanBeMirrored (door : Door) (s : Seen) : Type 0 where
  pub run : StandsFor door s
  pub volumes : AreVolumes s.content.files

-- the codes of a register's custodians
abbrev pub codes_of : RegisterValue → List ℕ
codes_of register = map (λ (x : CustodianValue). x.code) register

-- both are idle, and all that was kept of a register's custodians was loaded
pub record IsFilled (register : RegisterValue) (old new : Seen) (shelf : MemShelf) : Type 0 where
  pub lower : new.progress ≡ Idle
  pub upper : (seen_in shelf).progress ≡ Idle
  pub loaded : IsLoaded (codes_of register) old new shelf
