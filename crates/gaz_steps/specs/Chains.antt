-- What holds of the chain of a number on partial boards: the custodians that had it in turn.
use Rattle.std.specs.Prelude.{◌≡◌, ◌≤◌, ◌↔◌, ◌==◌, ℕ, true, false, length, List, [], Option}
use Rattle.std.specs.Prelude.{Some, None}
use Rattle.gaz_chains.specs.Chains.{IsChain, IsPrefixOf, holder}
use Rattle.gaz_chains.specs.Events.{Has}
use Rattle.gaz_chains.specs.Finding.{found}
use Rattle.gaz_keeper.specs.Board.{Board, last_view}
use Rattle.gaz_keeper.specs.Received.{HasAllOf, Received}
use Rattle.gaz_register.specs.Registers.{IsRegister, Owners, RegisterValue, blocks_of}
use Rattle.gaz_register.specs.Registers.{owner_of_uprn}
use Rattle.gaz_rules.specs.Rules.{holds_number}
use Rattle.gaz_views.specs.View.{custody_at}
use Rattle.gaz_views.specs.declared.custody.Custody.TheVariants.{Adopted}
use Rattle.gaz_steps.specs.Became.{became}
use Rattle.gaz_steps.specs.Standing.{Follows, IsPartial}

-- the number has a chain and no other; a custodian holds it in its last view just where it is the
-- chain's holder; and no two custodians adopted it at the same hop, so no release is adopted twice
pub record HasOneChain (register : RegisterValue) (files : Received) (board : Board)
    (allotted uprn : ℕ) : Type 0 where
  pub chain : List ℕ
  pub offered : Option ℕ
  pub is : IsChain allotted (became files board uprn) chain offered
  pub alone : (other : List ℕ) (others : Option ℕ)
      → IsChain allotted (became files board uprn) other others
      → (other ≡ chain) × (others ≡ offered)
  pub holds : (c : ℕ) → (holds_number (blocks_of register c) (last_view board c) uprn ≡ true)
      ↔ (holder chain offered ≡ Some c)
  pub adopted_once : (c d from other hop : ℕ)
      → Has (became files board uprn c) (Adopted from hop)
      → Has (became files board uprn d) (Adopted other hop) → (c ≡ d) × (from ≡ other)

-- on every partial board of a register each number in a custodian's blocks has one
abbrev pub OneChain : Type 0
OneChain =
    (register : RegisterValue) (files : Received) (board : Board) (allotted uprn : ℕ)
    → IsRegister register → owner_of_uprn register uprn ≡ Some allotted
    → IsPartial (blocks_of register) files board
    → HasOneChain register files board allotted uprn

-- the chain of a board begins that of every board that follows it
abbrev pub ChainsOfBoards : Type 0
ChainsOfBoards =
    (register : Owners) (files : Received) (board later : Board) (allotted uprn : ℕ)
    (chain longer : List ℕ) (offered others : Option ℕ)
    → Follows register files board later
    → IsChain allotted (became files board uprn) chain offered
    → IsChain allotted (became files later uprn) longer others
    → IsPrefixOf chain longer

-- with more files the same became of a number on a board, and its chain goes on from where it was
pub record ChainsGrow : Type 0 where
  pub same : (register : Owners) (files bigger : Received) (board : Board) (uprn : ℕ)
      → IsPartial register files board → HasAllOf bigger files
      → became bigger board uprn ≡ became files board uprn
  pub goes_on : (register : Owners) (files bigger : Received) (board later : Board)
      (allotted uprn : ℕ) (chain longer : List ℕ) (offered others : Option ℕ)
      → IsPartial register files board → HasAllOf bigger files
      → Follows register bigger board later
      → IsChain allotted (became files board uprn) chain offered
      → IsChain allotted (became bigger later uprn) longer others
      → IsPrefixOf chain longer

-- a turn for the first custodian and for each hop
abbrev pub most_turns : ℕ
most_turns = 10_000

-- who is found to hold the number, asking one last view after another from that of the custodian on
-- in whose blocks it lies
abbrev pub holder_from : Board → ℕ → ℕ → Option ℕ
holder_from board uprn owner =
    found (λ c. custody_at (last_view board c) uprn) (λ c. c == owner) most_turns owner

-- that is the chain's holder
abbrev pub FindsHolders : Type 0
FindsHolders =
    (register : RegisterValue) (files : Received) (board : Board) (allotted uprn : ℕ)
    (chain : List ℕ) (offered : Option ℕ)
    → IsRegister register → owner_of_uprn register uprn ≡ Some allotted
    → IsPartial (blocks_of register) files board
    → IsChain allotted (became files board uprn) chain offered
    → holder_from board uprn allotted ≡ holder chain offered

-- a chain has at most as many custodians as there are turns
abbrev pub ChainsAreShort : Type 0
ChainsAreShort =
    (files : Received) (board : Board) (allotted uprn : ℕ) (chain : List ℕ) (offered : Option ℕ)
    → IsChain allotted (became files board uprn) chain offered → length chain ≤ most_turns

-- a number in nobody's blocks
pub record UnallottedStay : Type 0 where
  pub never_became : (register : RegisterValue) (files : Received) (board : Board) (uprn : ℕ)
      → IsRegister register → owner_of_uprn register uprn ≡ None
      → IsPartial (blocks_of register) files board
      → (c : ℕ) → became files board uprn c ≡ []
  pub never_held : (register : RegisterValue) (files : Received) (board : Board) (uprn : ℕ)
      → IsRegister register → owner_of_uprn register uprn ≡ None
      → IsPartial (blocks_of register) files board
      → (c : ℕ) → holds_number (blocks_of register c) (last_view board c) uprn ≡ false
