-- Worked examples of growth, computed from the definitions.
use Rattle.std.specs.Prelude.{◌≡◌, ℕ, List, [], ◌∷◌, ◌++◌, Ok, Err, Some, codes}
use Rattle.gaz_register.specs.Growing.{Extends, growth_of}
use Rattle.gaz_register.specs.Lists.{by_key}
use Rattle.gaz_register.specs.Registers.{CustodianValue, RegisterValue, owner_of_uprn}
use Rattle.gaz_register.specs.declared.growth.GrowFault.TheVariants.{RemovedCustodian}
use Rattle.gaz_register.specs.declared.growth.GrowFault.TheVariants.{ChangedBlocks}

-- a custodian of these blocks, as a register keeps what a text has in any order
abbrev pub custodian : ℕ → List ℕ → List (ℕ × ℕ) → List (ℕ × ℕ) → CustodianValue
custodian code name uprn usrn = record {
  code = code;
  name = name;
  own = record { uprn = by_key (λ b. b.0) uprn; usrn = by_key (λ b. b.0) usrn };
}

abbrev pub county : RegisterValue
county = custodian 1001 (codes "Upper County") ((1, 10) ∷ []) ((1, 5) ∷ []) ∷ []

-- the second custodian of the register, under a name and with blocks
abbrev pub with_bay : List ℕ → List (ℕ × ℕ) → List (ℕ × ℕ) → RegisterValue
with_bay name uprn usrn = county ++ custodian 1003 name uprn usrn ∷ []

abbrev pub two : RegisterValue
two = with_bay (codes "Bay District") ((11, 15) ∷ (16, 20) ∷ []) ((6, 9) ∷ [])

-- it with a custodian between its two
abbrev pub three : RegisterValue
three =
    by_key (λ c. c.code)
    (two ++ custodian 1002 (codes "New Town") ((21, 30) ∷ []) ((10, 12) ∷ []) ∷ [])

abbrev pub renamed : RegisterValue
renamed = with_bay (codes "Bay") ((11, 15) ∷ (16, 20) ∷ []) ((6, 9) ∷ [])

-- the blocks of the second custodian are written the other way round
abbrev pub reordered : RegisterValue
reordered = with_bay (codes "Bay District") ((16, 20) ∷ (11, 15) ∷ []) ((6, 9) ∷ [])

-- the same UPRNs in one block
abbrev pub joined : RegisterValue
joined = with_bay (codes "Bay District") ((11, 20) ∷ []) ((6, 9) ∷ [])

-- one USRN more
abbrev pub wider : RegisterValue
wider = with_bay (codes "Bay District") ((11, 15) ∷ (16, 20) ∷ []) ((6, 10) ∷ [])

-- the second custodian is gone, and the first has other blocks
abbrev pub both_faults : RegisterValue
both_faults = custodian 1001 (codes "Upper County") ((1, 11) ∷ []) ((1, 5) ∷ []) ∷ []

pub record WorkedGrowth : Type 0 where
  pub itself : growth_of two two ≡ Ok tt
  pub gains : growth_of two three ≡ Ok tt
  pub extends : Extends two three
  pub owner_stays : owner_of_uprn three 16 ≡ Some 1003
  pub another_name : growth_of two renamed ≡ Ok tt
  pub name_extends : Extends two renamed
  pub another_order : growth_of two reordered ≡ Ok tt
  pub removed : growth_of two county ≡ Err RemovedCustodian
  pub no_growth : ¬ Extends two county
  pub blocks_joined : growth_of two joined ≡ Err ChangedBlocks
  pub not_joined : ¬ Extends two joined
  pub block_widened : growth_of two wider ≡ Err ChangedBlocks
  pub not_wider : ¬ Extends two wider
  pub removed_first : growth_of two both_faults ≡ Err RemovedCustodian
  pub back : growth_of three two ≡ Err RemovedCustodian
