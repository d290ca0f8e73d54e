-- Worked examples of rows of kind 92, computed from the definitions.
use Rattle.std.specs.Prelude.{ℕ, pos, [], ◌∷◌, Some, None}
use Rattle.sqlite.specs.Order.{Row}
use Rattle.sqlite.specs.declared.types.Value.TheVariants.{Int}
use Rattle.gaz_views.specs.declared.custody.Custody.TheVariants.{Released}
use Rattle.gaz_row_items.specs.PassageExamples.{given_row, given_up, taken_back, two_rows}
use Rattle.gaz_row_items.specs.PassageExamples.{without_hop}
use Rattle.gaz_row_items.specs.Versions.{passage_values, passages_in}
use Rattle.gaz_kept.specs.Kept.{ArePassages, IsVersion}
use Rattle.gaz_kept.specs.Passages.{IsLastOf}

-- a number that a custodian gave up to 1002, or nobody did
abbrev pub passed_by : ℕ → Row
passed_by c = Int (pos 5) ∷ passage_values c 1 3 500 (Released 1002 1)

pub record WorkedRows : Type 0 where
  pub version : IsVersion given_row
  pub hop_0 : ¬ IsVersion without_hop
  pub code_0 : ¬ IsVersion (passed_by 0)
  pub code_9999 : IsVersion (passed_by 9999)
  pub code_10000 : ¬ IsVersion (passed_by 10000)
  pub through_3 : ArePassages 3 (passages_in two_rows 1001)
  -- nothing follows the row that is gone with volume 3
  pub lapses : ¬ ArePassages 3 (passages_in (given_row ∷ []) 1001)
  pub last_by_2 : IsLastOf 2 (passages_in two_rows 1001) 500 (Some given_up)
  pub last_by_3 : IsLastOf 3 (passages_in two_rows 1001) 500 (Some taken_back)
  pub none_of_501 : IsLastOf 3 (passages_in two_rows 1001) 501 None
