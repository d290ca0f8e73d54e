-- What holds of every growth of a register.
use Rattle.std.specs.Prelude.{◌≡◌, ◌≢◌, ◌↔◌, ℕ, true, false, Some, Ok, Err}
use Rattle.gaz_register.specs.Growing.{Extends, growth_of}
use Rattle.gaz_register.specs.Registers.{RegisterValue, IsRegister, blocks_of, code_of, knows}
use Rattle.gaz_register.specs.Registers.{owner_of_uprn, owner_of_usrn, within}
use Rattle.gaz_register.specs.declared.growth.GrowFault.TheVariants.{RemovedCustodian}
use Rattle.gaz_register.specs.declared.growth.GrowFault.TheVariants.{ChangedBlocks}

-- some custodian of the old register is not in the grown one
pub record LosesCustodian (old grown : RegisterValue) : Type 0 where
  pub code : ℕ
  pub was : knows old code ≡ true
  pub gone : knows grown code ≡ false

-- each custodian of the old register is in the grown one, and one of them has other blocks
pub record ChangesBlocks (old grown : RegisterValue) : Type 0 where
  pub stay : (code : ℕ) → knows old code ≡ true → knows grown code ≡ true
  pub code : ℕ
  pub was : knows old code ≡ true
  pub differ : blocks_of grown code ≢ blocks_of old code

-- each answer comes just where its meaning holds
abbrev pub GrowthTells : Type 0
GrowthTells =
    (old grown : RegisterValue) → IsRegister old
    → ((growth_of old grown ≡ Ok tt) ↔ Extends old grown)
    × ((growth_of old grown ≡ Err RemovedCustodian) ↔ LosesCustodian old grown)
    × ((growth_of old grown ≡ Err ChangedBlocks) ↔ ChangesBlocks old grown)

-- a register is a growth of itself, and a growth of a growth is a growth
pub record ExtendsComposes : Type 0 where
  pub itself : (r : RegisterValue) → Extends r r
  pub twice : (r s t : RegisterValue) → Extends r s → Extends s t → Extends r t

-- a number that had an owner has the same owner
abbrev pub OwnersStay : Type 0
OwnersStay =
    (old grown : RegisterValue) → IsRegister old → IsRegister grown → Extends old grown
    → (code n : ℕ)
    → (owner_of_uprn old n ≡ Some code → owner_of_uprn grown n ≡ Some code)
    × (owner_of_usrn old n ≡ Some code → owner_of_usrn grown n ≡ Some code)

-- the code of a custodian of the old register is one of the grown register
abbrev pub CodesStay : Type 0
CodesStay =
    (old grown : RegisterValue) → Extends old grown → (code : ℕ)
    → (knows old code ≡ true → knows grown code ≡ true)
    × (code_of old code ≡ Some code → code_of grown code ≡ Some code)

-- what was allotted stays allotted; and to a custodian of the old register nothing else is
pub record AllottedStays : Type 0 where
  pub uprn : (old grown : RegisterValue) → Extends old grown → (code n : ℕ)
      → within (blocks_of old code).uprn n ≡ true → within (blocks_of grown code).uprn n ≡ true
  pub usrn : (old grown : RegisterValue) → Extends old grown → (code n : ℕ)
      → within (blocks_of old code).usrn n ≡ true → within (blocks_of grown code).usrn n ≡ true
  pub same_uprn : (old grown : RegisterValue) → Extends old grown → (code n : ℕ)
      → knows old code ≡ true
      → within (blocks_of grown code).uprn n ≡ within (blocks_of old code).uprn n
  pub same_usrn : (old grown : RegisterValue) → Extends old grown → (code n : ℕ)
      → knows old code ≡ true
      → within (blocks_of grown code).usrn n ≡ within (blocks_of old code).usrn n
