-- The blocks of all custodians with their owners, as a register keeps them for its look-ups.
use Rattle.std.specs.Prelude.{ℕ, ◌<◌, ◌&&◌, nat_le, Bool, List, length, map}
use Rattle.std.specs.List.{AllAdjacentBelow, flat_map}
use Rattle.std.specs.List.Sorted.{IsPermutation, IsNonDecreasingBy}
use Rattle.gaz_register.specs.Registers.{Blocks, RegisterValue, IsRegister}
use Rattle.gaz_register.specs.declared.index.Holding.{Holding}
use Rattle.gaz_register.specs.declared.index.Kind.{Kind}
use Rattle.gaz_register.specs.declared.index.Kind.TheVariants.{Uprn, Usrn}

-- the blocks of one kind of number
abbrev pub blocks_in : Kind → Blocks → List (ℕ × ℕ)
blocks_in Uprn = λ b. b.uprn
blocks_in Usrn = λ b. b.usrn

abbrev pub holding : ℕ → (ℕ × ℕ) → Holding
holding owner b = record { first = b.0; last = b.1; owner = owner }

-- each block of one kind with its owner
abbrev pub holdings_of : (Blocks → List (ℕ × ℕ)) → RegisterValue → List Holding
holdings_of kind register = flat_map (λ c. map (holding c.code) (kind c.own)) register

-- whether the number is in the block
abbrev pub is_in : ℕ → Holding → Bool
is_in n h = nat_le h.first n && nat_le n h.last

-- each block ends before the next begins
abbrev pub Rises : List Holding → Type 0
Rises holdings = AllAdjacentBelow (λ a b. a.last < b.first) holdings (length holdings)

-- the blocks of one kind in rising order
pub record IsIndex
    (kind : Blocks → List (ℕ × ℕ)) (register : RegisterValue) (holdings : List Holding)
    : Type 0 where
  pub same : IsPermutation (holdings_of kind register) holdings
  pub sorted : IsNonDecreasingBy (λ h. h.first) holdings
  pub rises : Rises holdings

-- a register with its indexes
pub record IsIndexed (register : RegisterValue) (uprn usrn : List Holding) : Type 0 where
  pub lawful : IsRegister register
  pub by_uprn : IsIndex (λ b. b.uprn) register uprn
  pub by_usrn : IsIndex (λ b. b.usrn) register usrn
