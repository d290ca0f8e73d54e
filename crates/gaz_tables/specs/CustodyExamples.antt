-- Worked examples: what is found among four rows of kind 92.
use Rattle.std.specs.Prelude.{◌≡◌, pos, List, [], ◌∷◌, codes, true, false}
use Rattle.sqlite.specs.Order.{Row}
use Rattle.sqlite.specs.declared.types.Value.TheVariants.{Int, Text}
use Rattle.gaz_tables.specs.Custody.{FindsCustodyBehind, listed_shown}
use Rattle.gaz_tables.specs.Versions.{version_values}

-- 1001 gave number U1 to 1002 with volume 2, took it back with volume 4, and gave up U2 with
-- volume 1
abbrev pub given_up : Row
given_up = Int (pos 1) ∷ version_values 1001 92 (codes "U1") (pos 500) 1002 0 false 2 4 [] 1

abbrev pub taken_back : Row
taken_back = Int (pos 2) ∷ version_values 1001 92 (codes "U1") (pos 500) 1002 0 true 4 1000000 [] 2

abbrev pub another : Row
another = Int (pos 3) ∷ version_values 1001 92 (codes "U2") (pos 501) 1003 0 false 1 1000000 [] 1

-- and 1002 took U1
abbrev pub elsewhere : Row
elsewhere = Int (pos 4) ∷ version_values 1002 92 (codes "U1") (pos 500) 1001 0 true 3 1000000 [] 1

abbrev pub four_passages : List Row
four_passages = given_up ∷ taken_back ∷ another ∷ elsewhere ∷ []

pub record WorkedCustody : Type 0 where
  pub first_two : FindsCustodyBehind 1001 [] 0 2 four_passages
      (listed_shown given_up ∷ listed_shown taken_back ∷ [])
  pub behind_volume_2 : FindsCustodyBehind 1001 (codes "U1") 2 9 four_passages
      (listed_shown taken_back ∷ listed_shown another ∷ [])
  pub behind_all : FindsCustodyBehind 1001 (codes "U2") 1 9 four_passages []
  pub shown : listed_shown taken_back
      ≡ Text (codes "U1") ∷ Int (pos 4) ∷ Int (pos 1000000) ∷ Int (pos 1) ∷ Int (pos 1002)
      ∷ Int (pos 2) ∷ Int (pos 0) ∷ Text [] ∷ []
