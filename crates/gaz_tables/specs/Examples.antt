-- Worked examples: what is found among four rows of `version2` and three of `received`, what a
-- write makes of a row, which schemas have a store's tables, which have room for them, and which
-- are migrated.
use Rattle.std.specs.Prelude.{◌≡◌, ℕ, ℤ, pos, List, [], ◌∷◌, codes, true, false}
use Rattle.sqlite.specs.Order.{Row}
use Rattle.sqlite.specs.declared.types.Value.TheVariants.{Int, Text, Blob}
use Rattle.gaz_tables.specs.CreatingExamples.{WorkedCreating}
use Rattle.gaz_tables.specs.CustodyExamples.{WorkedCustody}
use Rattle.gaz_tables.specs.Metas.{meta_row, meta_shown}
use Rattle.gaz_tables.specs.MigratingExamples.{WorkedMigrating}
use Rattle.gaz_tables.specs.Receiveds.{FindsAbove, FindsVerdict, file_shown, judged, unjudged}
use Rattle.gaz_tables.specs.Rowids.{FindsBehind, FindsFirst, row_shown}
use Rattle.gaz_tables.specs.StoreExamples.{WorkedStores}
use Rattle.gaz_tables.specs.Versions.{Closes, FindsApprovedOf, FindsHolding, FindsNewest}
use Rattle.gaz_tables.specs.Versions.{FindsNewestUntil, gone_at, version_values}

-- an address of 1001 that was changed at volume 3, a historical one of the same BLPU, and one that
-- is 1002's
abbrev pub flat_2 : Row
flat_2 = Int (pos 1)
    ∷ version_values 1001 24 (codes "K1") (pos 42) 101 1 true 1 3 (codes "flat 2") 0

abbrev pub flat_3 : Row
flat_3 = Int (pos 2)
    ∷ version_values 1001 24 (codes "K1") (pos 42) 101 1 true 3 1000000 (codes "flat 3") 0

abbrev pub shop : Row
shop = Int (pos 3)
    ∷ version_values 1001 24 (codes "K2") (pos 42) 101 2 false 2 1000000 (codes "shop") 0

abbrev pub house : Row
house = Int (pos 4)
    ∷ version_values 1002 24 (codes "K1") (pos 42) 101 1 true 1 1000000 (codes "house") 0

abbrev pub four_rows : List Row
four_rows = flat_2 ∷ flat_3 ∷ shop ∷ house ∷ []

-- what is answered: one row of these values
abbrev pub one : Row → List Row
one values = values ∷ []

abbrev pub as_life : ℤ → ℤ → List ℕ → Row
as_life born gone body = Int born ∷ Int gone ∷ Text body ∷ []

abbrev pub as_body : List ℕ → List ℕ → Row
as_body id body = Text id ∷ Text body ∷ []

pub record WorkedVersions : Type 0 where
  pub newest : FindsNewest 1001 24 (codes "K1") four_rows
      (one (as_life (pos 3) (pos 1000000) (codes "flat 3")))
  pub not_the_oldest : ¬ FindsNewest 1001 24 (codes "K1") four_rows
      (one (as_life (pos 1) (pos 3) (codes "flat 2")))
  pub until_2 : FindsNewestUntil 1001 24 (codes "K1") 2 four_rows
      (one (as_life (pos 1) (pos 3) (codes "flat 2")))
  pub of_no_key : FindsNewest 1001 24 (codes "K3") four_rows []
  pub approved : FindsApprovedOf 1001 (pos 42) four_rows
      (one (as_body (codes "K1") (codes "flat 3")))
  pub first_of_two : FindsHolding 1001 24 [] 2 1 four_rows
      (one (as_body (codes "K1") (codes "flat 2")))
  pub behind_the_first : FindsHolding 1001 24 (codes "K1") 2 1 four_rows
      (one (as_body (codes "K2") (codes "shop")))
  pub closed : Closes 1001 24 (codes "K1") 3 5
      (flat_3 ∷ house ∷ []) (gone_at 5 flat_3 ∷ house ∷ [])
  pub closed_row : gone_at 5 flat_3
      ≡ Int (pos 2)
      ∷ version_values 1001 24 (codes "K1") (pos 42) 101 1 true 3 5 (codes "flat 3") 0

-- a row that ended is found as well, and one of any custodian
pub record WorkedRowids : Type 0 where
  pub first_two : FindsFirst 2 four_rows (row_shown flat_2 ∷ row_shown flat_3 ∷ [])
  pub behind_2 : FindsBehind (pos 2) 9 four_rows (row_shown shop ∷ row_shown house ∷ [])
  pub behind_all : FindsBehind (pos 4) 9 four_rows []
  pub whole_row : row_shown shop ≡ shop

-- volumes 1 and 3 of 1001, of which the first is rejected at record 4 by rule 22, and volume 2 of
-- 1002
abbrev pub rejected_1 : Row
rejected_1 = judged 2 (pos 4) 22 (Int (pos 1) ∷ unjudged 1001 1 (codes "one"))

abbrev pub held_3 : Row
held_3 = Int (pos 2) ∷ unjudged 1001 3 (codes "three")

abbrev pub of_1002 : Row
of_1002 = Int (pos 3) ∷ unjudged 1002 2 (codes "two")

abbrev pub three_files : List Row
three_files = rejected_1 ∷ held_3 ∷ of_1002 ∷ []

pub record WorkedReceiveds : Type 0 where
  pub verdict : FindsVerdict 1001 1 three_files
      (one (Int (pos 2) ∷ Int (pos 4) ∷ Int (pos 22) ∷ []))
  pub of_no_volume : FindsVerdict 1001 2 three_files []
  pub above_1 : FindsAbove 1001 1 9 three_files ((Int (pos 3) ∷ []) ∷ [])
  pub file : file_shown held_3 ≡ Blob (codes "three") ∷ Int (pos 0) ∷ Int (pos 0) ∷ Int (pos 0) ∷ []
  pub meta : meta_shown (meta_row 1 (codes "register"))
      ≡ Int (pos 1) ∷ Int (pos 1) ∷ Text (codes "register") ∷ []

pub record WorkedExamples : Type 0 where
  pub on_versions : WorkedVersions
  pub on_rowids : WorkedRowids
  pub on_receiveds : WorkedReceiveds
  pub on_custody : WorkedCustody
  pub on_stores : WorkedStores
  pub on_creating : WorkedCreating
  pub on_migrating : WorkedMigrating
