-- Worked examples of the reading of a register, computed from the definitions.
use Rattle.std.specs.Prelude.{◌≡◌, ℕ, ℤ, pos, negsuc, List, [], ◌∷◌, ◌++◌, map, codes, Ok, Err}
use Rattle.toml.specs.Data.{array, integer, item, member, no_items, no_members}
use Rattle.gaz_ids.specs.Limits.{last_uprn, last_usrn}
use Rattle.gaz_register.specs.Drafts.{DraftValue, draft_in, drafts_in, pair_of}
use Rattle.gaz_register.specs.GrowthExamples.{county, custodian, two}
use Rattle.gaz_register.specs.Reading.{block_from, blocks_from, checked, custodian_from}
use Rattle.gaz_register.specs.Reading.{custodians_from}
use Rattle.gaz_register.specs.Registers.{CustodianValue}
use Rattle.gaz_register.specs.Texts.{register_text}
use Rattle.gaz_register.specs.declared.fault.RegFault.TheVariants.{BadBlock, BadCode, BadName}
use Rattle.gaz_register.specs.declared.fault.RegFault.TheVariants.{Overlap, SameCode, Shape}

-- blocks of one number each
abbrev pub singles : List ℕ → List (ℤ × ℤ)
singles numbers = map (λ n. (pos n, pos n)) numbers

-- a custodian as its table writes it, of blocks of UPRNs alone
abbrev pub draft : ℤ → List ℕ → List (ℤ × ℤ) → DraftValue
draft code name uprn = record { code = code; name = name; uprn = uprn; usrn = [] }

-- a custodian of one block of UPRNs
abbrev pub of_block : ℕ → ℕ × ℕ → CustodianValue
of_block code block = custodian code (codes "A") (block ∷ []) []

pub record WorkedBlocks : Type 0 where
  pub greatest : block_from last_usrn (pos 1, pos 99_999_999) ≡ Ok (1, 99_999_999)
  pub greatest_uprn : block_from last_uprn (pos 1, pos 999_999_999_999) ≡ Ok (1, 999_999_999_999)
  pub of_one_number : block_from last_usrn (pos 5, pos 5) ≡ Ok (5, 5)
  pub from_none : block_from last_usrn (pos 0, pos 1) ≡ Err BadBlock
  pub below_none : block_from last_usrn (negsuc 0, pos 1) ≡ Err BadBlock
  pub backwards : block_from last_usrn (pos 5, pos 4) ≡ Err BadBlock
  pub beyond : block_from last_usrn (pos 1, pos 100_000_000) ≡ Err BadBlock
  -- by rising first number, eight at most
  pub sorted : blocks_from last_usrn ((pos 6, pos 10) ∷ (pos 1, pos 5) ∷ [])
      ≡ Ok ((1, 5) ∷ (6, 10) ∷ [])
  pub eight : blocks_from last_usrn (singles (1 ∷ 2 ∷ 3 ∷ 4 ∷ 5 ∷ 6 ∷ 7 ∷ 8 ∷ []))
      ≡ Ok (map (λ n. (n, n)) (1 ∷ 2 ∷ 3 ∷ 4 ∷ 5 ∷ 6 ∷ 7 ∷ 8 ∷ []))
  pub nine : blocks_from last_usrn (singles (1 ∷ 2 ∷ 3 ∷ 4 ∷ 5 ∷ 6 ∷ 7 ∷ 8 ∷ 9 ∷ []))
      ≡ Err BadBlock

pub record WorkedReading : Type 0 where
  pub last_code : custodian_from (draft (pos 9999) (codes "A") (singles (7 ∷ [])))
      ≡ Ok (of_block 9999 (7, 7))
  -- the code is looked at before the name, and the name before the blocks
  pub no_code : custodian_from (draft (pos 0) [] (singles (0 ∷ []))) ≡ Err BadCode
  pub no_such_code : custodian_from (draft (pos 10000) [] (singles (0 ∷ []))) ≡ Err BadCode
  pub no_name : custodian_from (draft (pos 1) [] (singles (0 ∷ []))) ≡ Err BadName
  pub space_at_an_end : custodian_from (draft (pos 1) (codes "A ") []) ≡ Err BadName
  pub no_block : custodian_from (draft (pos 1) (codes "A") (singles (0 ∷ []))) ≡ Err BadBlock
  -- each custodian's faults come in the order of the text
  pub first_custodian : custodians_from
      (draft (pos 1) (codes "A") (singles (0 ∷ [])) ∷ draft (pos 0) (codes "A") [] ∷ [])
      ≡ Err BadBlock
  pub by_code : custodians_from (draft (pos 2) (codes "A") [] ∷ draft (pos 1) (codes "A") [] ∷ [])
      ≡ Ok (custodian 1 (codes "A") [] [] ∷ custodian 2 (codes "A") [] [] ∷ [])
  -- one code twice is told before a number that two have
  pub code_twice : checked (of_block 1 (1, 5) ∷ of_block 1 (1, 5) ∷ []) ≡ Err SameCode
  pub number_twice : checked (of_block 1 (1, 5) ∷ of_block 2 (5, 9) ∷ []) ≡ Err Overlap
  pub twice_in_one : checked (custodian 1 (codes "A") ((1, 5) ∷ (5, 9) ∷ []) [] ∷ []) ≡ Err Overlap
  pub side_by_side : checked (of_block 1 (1, 5) ∷ of_block 2 (6, 10) ∷ [])
      ≡ Ok (of_block 1 (1, 5) ∷ of_block 2 (6, 10) ∷ [])
  -- what the tables of the text must be
  pub no_custodian : drafts_in (member (codes "custodian") (array no_items) no_members) ≡ Err Shape
  pub no_keys : draft_in no_members ≡ Err Shape
  pub block_of_one : pair_of (array (item (integer (pos 1)) no_items)) ≡ Err Shape
  pub block_of_two : pair_of
      (array (item (integer (pos 1)) (item (integer (pos 5)) no_items))) ≡ Ok (pos 1, pos 5)
  -- the canonical text
  pub one_row : register_text county ≡ codes "1001,Upper County,1-10,1-5" ++ 10 ∷ []
  pub two_rows : register_text two ≡ register_text county
      ++ (codes "1003,Bay District,11-15 16-20,6-9" ++ 10 ∷ [])
