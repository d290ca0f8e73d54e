-- Who can have a property, and what a look-up comes to where nobody else has it.
use Rattle.std.specs.Prelude.{◌≡◌, ℕ, Bool, true, List, Option, Some, None, if◌then◌else◌}
use Rattle.std.specs.Option.{option_and_then, option_or}
use Rattle.gaz_chains.specs.Chains.{IsChain, holder}
use Rattle.gaz_extract.specs.Lookups.{lookup, said_by}
use Rattle.gaz_extract.specs.declared.found.Found.{Found}
use Rattle.gaz_records.specs.declared.key.Key.TheVariants as key
use Rattle.gaz_register.specs.Registers.{IsRegister, RegisterValue, blocks_of, knows}
use Rattle.gaz_register.specs.Registers.{owner_of_uprn}
use Rattle.gaz_rules.specs.Rules.{holds_number}
use Rattle.gaz_keeper.specs.Board.{Board, last_view}
use Rattle.gaz_keeper.specs.Received.{Received}
use Rattle.gaz_views.specs.View.{holds}
use Rattle.gaz_steps.specs.Became.{became}
use Rattle.gaz_steps.specs.Chains.{holder_from}
use Rattle.gaz_steps.specs.Standing.{IsPartial}

-- a custodian can have the properties whose numbers it holds in its last view
abbrev pub can_have : Board → RegisterValue → ℕ → ℕ → Bool
can_have board register uprn c = holds_number (blocks_of register c) (last_view board c) uprn

-- what a custodian says of the property, where the register has it
abbrev pub said_by_known : Board → RegisterValue → ℕ → ℕ → Option Found
said_by_known board register uprn c =
    if knows register c then said_by board register uprn c else None

-- what the custodian in whose blocks the number lies says of the property, and where it has nothing
-- to say, the one that is found to hold the number; nothing where the number is in nobody's blocks
abbrev pub told_by_holder : Board → RegisterValue → ℕ → Option Found
told_by_holder board register uprn =
    option_and_then
    (λ owner. option_or (said_by board register uprn owner)
    (option_and_then (said_by_known board register uprn) (holder_from board uprn owner)))
    (owner_of_uprn register uprn)

-- on a partial board only the holder of a number's chain can have its property, and what it says is
-- what a look-up finds
pub record OwnersAlone : Type 0 where
  -- on a partial board only who can have a property has it
  pub have : (register : RegisterValue) (files : Received) (board : Board) (c uprn : ℕ)
      → IsPartial (blocks_of register) files board
      → holds (last_view board c) (key.Blpu uprn) ≡ true
      → can_have board register uprn c ≡ true
  -- that is the holder of the number's chain
  pub can : (register : RegisterValue) (files : Received) (board : Board) (c allotted uprn : ℕ)
      (chain : List ℕ) (offered : Option ℕ)
      → IsRegister register → IsPartial (blocks_of register) files board
      → owner_of_uprn register uprn ≡ Some allotted
      → IsChain allotted (became files board uprn) chain offered
      → can_have board register uprn c ≡ true → holder chain offered ≡ Some c
  -- nobody can have one whose number is in nobody's blocks
  pub nobody : (register : RegisterValue) (files : Received) (board : Board) (c uprn : ℕ)
      → IsRegister register → IsPartial (blocks_of register) files board
      → can_have board register uprn c ≡ true → owner_of_uprn register uprn ≡ None → ⊥
  -- so what the holder says is what a look-up finds
  pub told : (register : RegisterValue) (files : Received) (board : Board) (uprn : ℕ)
      → IsRegister register → IsPartial (blocks_of register) files board
      → lookup board register uprn ≡ told_by_holder board register uprn
