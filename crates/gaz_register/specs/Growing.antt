-- When a register is a growth of another.
use Rattle.std.specs.Prelude.{◌≡◌, ◌==◌, ◌&&◌, not, ℕ, Bool, true, false, List}
use Rattle.std.specs.Prelude.{Result, Ok, Err, if◌then◌else◌}
use Rattle.std.specs.Cmp.Lexicographic.{pointwise}
use Rattle.std.specs.List.{list_all}
use Rattle.std.specs.Option.{option_map_or}
use Rattle.gaz_register.specs.Registers.{CustodianValue, RegisterValue, blocks_of}
use Rattle.gaz_register.specs.Registers.{custodian_of, knows}
use Rattle.gaz_register.specs.declared.growth.GrowFault.{GrowFault}
use Rattle.gaz_register.specs.declared.growth.GrowFault.TheVariants.{RemovedCustodian}
use Rattle.gaz_register.specs.declared.growth.GrowFault.TheVariants.{ChangedBlocks}

-- each custodian of the old register is in the grown one, with its own blocks; nothing is said of
-- names, nor of who else is there
pub record Extends (old grown : RegisterValue) : Type 0 where
  pub custodians : (code : ℕ) → knows old code ≡ true → knows grown code ≡ true
  pub blocks : (code : ℕ) → knows old code ≡ true → blocks_of grown code ≡ blocks_of old code

-- two lists have the same blocks in the same order
abbrev pub same_blocks : List (ℕ × ℕ) → List (ℕ × ℕ) → Bool
same_blocks xs ys = pointwise (λ a b. (a.0 == b.0) && (a.1 == b.1)) xs ys

-- whether the register has the custodian's code, with the custodian's blocks of both kinds
abbrev pub has_blocks : RegisterValue → CustodianValue → Bool
has_blocks grown c =
    option_map_or
    (λ d. same_blocks d.own.uprn c.own.uprn && same_blocks d.own.usrn c.own.usrn)
    (custodian_of grown c.code) false

abbrev pub keeps_custodians : RegisterValue → RegisterValue → Bool
keeps_custodians old grown = list_all (λ c. knows grown c.code) old

abbrev pub keeps_blocks : RegisterValue → RegisterValue → Bool
keeps_blocks old grown = list_all (λ c. has_blocks grown c) old

-- whether the second register is a growth of the first, or the first fault: all custodians are
-- looked for before any blocks
abbrev pub growth_of : RegisterValue → RegisterValue → Result (Unit {0}) GrowFault
growth_of old grown =
    if not (keeps_custodians old grown) then Err RemovedCustodian else
    if not (keeps_blocks old grown) then Err ChangedBlocks else
    Ok tt
