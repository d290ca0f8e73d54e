-- What holds of every register.
use Rattle.std.specs.Prelude.{◌≡◌, ◌↔◌, ℕ, List, Some, Ok, true}
use Rattle.std.specs.List.Sorted.{IsNonDecreasingBy, IsPermutation}
use Rattle.gaz_register.specs.Lists.{by_key}
use Rattle.gaz_register.specs.Reading.{register_of}
use Rattle.gaz_register.specs.Registers.{RegisterValue, IsRegister, blocks_of, owner_of_uprn}
use Rattle.gaz_register.specs.Registers.{owner_of_usrn, within}
use Rattle.gaz_register.specs.Texts.{register_text}

-- what a text describes is a register: its codes rise, and no number is in two blocks
abbrev pub ReadsRegisters : Type 0
ReadsRegisters = (text : List ℕ) (r : RegisterValue) → register_of text ≡ Ok r → IsRegister r

-- a number is in the own blocks of its owner, and of nobody else
abbrev pub OneOwner : Type 0
OneOwner = (r : RegisterValue) → IsRegister r → (code n : ℕ)
    → ((within (blocks_of r code).uprn n ≡ true) ↔ (owner_of_uprn r n ≡ Some code))
    × ((within (blocks_of r code).usrn n ≡ true) ↔ (owner_of_usrn r n ≡ Some code))

-- equal canonical texts mean equal registers
abbrev pub TextsTell : Type 0
TextsTell =
    (r s : RegisterValue) → IsRegister r → IsRegister s → register_text r ≡ register_text s → r ≡ s

-- blocks by their first numbers are the same blocks, and their first numbers don't fall
abbrev pub SortsBlocks : Type 0
SortsBlocks =
    (bs : List (ℕ × ℕ)) → IsPermutation bs (by_key (λ b. b.0) bs)
    × IsNonDecreasingBy (λ b. b.0) (by_key (λ b. b.0) bs)

-- custodians by their codes are the same custodians, and their codes don't fall
abbrev pub SortsCustodians : Type 0
SortsCustodians =
    (cs : RegisterValue) → IsPermutation cs (by_key (λ c. c.code) cs)
    × IsNonDecreasingBy (λ c. c.code) (by_key (λ c. c.code) cs)
