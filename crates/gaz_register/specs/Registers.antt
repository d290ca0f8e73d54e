-- What a register of custodians holds, and whose a number is.
use Rattle.std.specs.Prelude.{◌≡◌, ℕ, ◌<◌, ◌≤◌, ◌==◌, ◌&&◌, ◌||◌, not, nat_lt, nat_le, Bool, true}
use Rattle.std.specs.Prelude.{List, [], length, Option, Some, None, option_map, is_some}
use Rattle.std.specs.Prelude.{if◌then◌else◌}
use Rattle.std.specs.List.{AllAdjacentBelow, find, flat_map, list_all, list_any}
use Rattle.std.specs.Option.{option_map_or}
use Rattle.gaz_ids.specs.Limits.{last_code, last_uprn, last_usrn}
use Rattle.gaz_ids.specs.Numbers.{in_range}
use Rattle.gaz_register.specs.Lists.{each_two}
use Rattle.gaz_register.specs.Names.{is_name}

-- the blocks of a custodian, each its first and its last number, for each kind of number by rising
-- first number
pub record Blocks : Type 0 where
  pub uprn : List (ℕ × ℕ)
  pub usrn : List (ℕ × ℕ)

-- a custodian: its code, its name and its own blocks
pub record CustodianValue : Type 0 where
  pub code : ℕ
  pub name : List ℕ
  pub own : Blocks

-- the custodians by rising code
abbrev pub RegisterValue : Type 0
RegisterValue = List CustodianValue

-- ---- what is looked up

-- whether the number is in one of the blocks
abbrev pub within : List (ℕ × ℕ) → ℕ → Bool
within blocks n = list_any (λ b. nat_le b.0 n && nat_le n b.1) blocks

-- the custodian with this code
abbrev pub custodian_of : RegisterValue → ℕ → Option CustodianValue
custodian_of register code = find (λ c. c.code == code) register

-- whether the register has a custodian with this code
abbrev pub knows : RegisterValue → ℕ → Bool
knows register code = is_some (custodian_of register code)

-- the code of this number, where the register has a custodian with it
abbrev pub code_of : RegisterValue → ℕ → Option ℕ
code_of register number = if knows register number then Some number else None

-- the name of the custodian with this code
abbrev pub name_of : RegisterValue → ℕ → Option (List ℕ)
name_of register code = option_map (λ c. c.name) (custodian_of register code)

abbrev pub no_blocks : Blocks
no_blocks = record { uprn = []; usrn = [] }

-- the own blocks of the custodian with this code; none where the register lacks it
abbrev pub blocks_of : RegisterValue → ℕ → Blocks
blocks_of register code = option_map_or (λ c. c.own) (custodian_of register code) no_blocks

-- each custodian's own blocks
abbrev pub Owners : Type 0
Owners = ℕ → Blocks

-- the code of the custodian whose blocks hold the number
abbrev pub owner_in : (Blocks → List (ℕ × ℕ)) → RegisterValue → ℕ → Option ℕ
owner_in kind register n = option_map (λ c. c.code) (find (λ c. within (kind c.own) n) register)

abbrev pub owner_of_uprn : RegisterValue → ℕ → Option ℕ
owner_of_uprn = owner_in (λ b. b.uprn)

abbrev pub owner_of_usrn : RegisterValue → ℕ → Option ℕ
owner_of_usrn = owner_in (λ b. b.usrn)

-- ---- what every register keeps

-- the most custodians, and the most blocks of one kind that one of them has
abbrev pub most_custodians : ℕ
most_custodians = 400

abbrev pub most_blocks : ℕ
most_blocks = 8

-- the two blocks have no number in common
abbrev pub is_apart : (ℕ × ℕ) → (ℕ × ℕ) → Bool
is_apart a b = nat_lt a.1 b.0 || nat_lt b.1 a.0

-- the blocks of one kind of all custodians
abbrev pub all_blocks : (Blocks → List (ℕ × ℕ)) → RegisterValue → List (ℕ × ℕ)
all_blocks kind register = flat_map (λ c. kind c.own) register

-- no two blocks of one kind have a number in common, also of one custodian
abbrev pub is_disjoint : (Blocks → List (ℕ × ℕ)) → RegisterValue → Bool
is_disjoint kind register = each_two is_apart (all_blocks kind register)

-- the custodians have different codes
abbrev pub has_own_codes : RegisterValue → Bool
has_own_codes register = each_two (λ a b. not (a.code == b.code)) register

-- at most 8 blocks, each from a first number to one that isn't below it, from 1 to the highest
-- number
abbrev pub are_blocks : ℕ → List (ℕ × ℕ) → Bool
are_blocks most blocks =
    nat_le (length blocks) most_blocks
    && list_all (λ b. nat_le 1 b.0 && nat_le b.0 b.1 && nat_le b.1 most) blocks

-- a code, a name and blocks that a custodian may have
abbrev pub is_custodian : CustodianValue → Bool
is_custodian c =
    in_range 1 last_code c.code && is_name c.name
    && are_blocks last_uprn c.own.uprn && are_blocks last_usrn c.own.usrn

-- at most 400 custodians, by rising code, and no number is in two blocks
pub record IsRegister (register : RegisterValue) : Type 0 where
  pub few : length register ≤ most_custodians
  pub codes_rise : AllAdjacentBelow (λ a b. a.code < b.code) register (length register)
  pub lawful : list_all is_custodian register ≡ true
  pub uprn_disjoint : is_disjoint (λ b. b.uprn) register ≡ true
  pub usrn_disjoint : is_disjoint (λ b. b.usrn) register ≡ true
