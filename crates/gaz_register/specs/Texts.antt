-- The canonical text of a register.
use Rattle.std.specs.Prelude.{ℕ, List, [], ◌∷◌, ◌++◌, map, decimal}
use Rattle.std.specs.List.{join_with_byte}
use Rattle.gaz_rows.specs.Rows.{Fields, lines_of}
use Rattle.gaz_register.specs.Registers.{CustodianValue, RegisterValue}

-- first-last
abbrev pub block_text : (ℕ × ℕ) → List ℕ
block_text b = decimal b.0 ++ (45 ∷ decimal b.1)

-- the blocks, joined by one space
abbrev pub blocks_text : List (ℕ × ℕ) → List ℕ
blocks_text blocks = join_with_byte 32 (map block_text blocks)

-- code, name, UPRN blocks, USRN blocks
abbrev pub row_of : CustodianValue → Fields
row_of c = decimal c.code ∷ c.name ∷ blocks_text c.own.uprn ∷ blocks_text c.own.usrn ∷ []

-- a row of CSV for each custodian
abbrev pub register_text : RegisterValue → List ℕ
register_text register = lines_of (map row_of register)
