-- Streets of a custodian's addresses that were asked, and what was told of each.
use Rattle.std.specs.Prelude.{◌≡◌, ℕ, Bool, List, Some}
use Rattle.std.specs.BTreeMap.{is_at}
use Rattle.std.specs.Map.{lookup}
use Rattle.std.specs.Ordering.{nat_cmp}
use Rattle.gaz_register.specs.Registers.{RegisterValue}
use Rattle.gaz_keeper.specs.Board.{Board}
use Rattle.gaz_extract.specs.Closing.{is_closed_elsewhere}

-- a street's number, and whether it was told to be closed elsewhere
abbrev pub AskedStreets : Type 0
AskedStreets = List (ℕ × Bool)

-- what was told of each street is right of the board
abbrev pub AreRight : Board → RegisterValue → ℕ → AskedStreets → Type 0
AreRight board register c asked = (usrn : ℕ) (told : Bool)
    → lookup (is_at (nat_cmp usrn)) asked ≡ Some told
    → told ≡ is_closed_elsewhere board register c usrn

-- where all that was told before is right, so is all that was told by then, and this is so
abbrev pub Recalls : Board → RegisterValue → ℕ → AskedStreets → AskedStreets → Type 0 → Type 0
Recalls board register c old new IsTold =
    AreRight board register c old → AreRight board register c new × IsTold
