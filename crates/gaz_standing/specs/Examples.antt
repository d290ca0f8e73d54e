-- Worked examples, computed from the definitions.
use Rattle.std.specs.Prelude.{◌≡◌, true, false, List, [], ◌∷◌, slice_get, Some, None, codes}
use Rattle.std.specs.FinMap as map
use Rattle.gaz_ids.specs.declared.lang.Lang.TheVariants.{Eng}
use Rattle.gaz_ids.specs.declared.status.Status.TheVariants.{Alternative, Approved}
use Rattle.gaz_records.specs.declared.item.Item.{Item}
use Rattle.gaz_records.specs.declared.key.Key.{Key}
use Rattle.gaz_records.specs.declared.key.Key.TheVariants as key
use Rattle.gaz_views.specs.Examples.{blpu, council_tax, lpi, street}
use Rattle.gaz_views.specs.Judgements.{judgements}
use Rattle.gaz_views.specs.View.{was_used}
use Rattle.gaz_views.specs.Words.{blpu_named}
use Rattle.gaz_views.specs.declared.verdict.Verdict.{Verdict}
use Rattle.gaz_views.specs.declared.verdict.Verdict.TheVariants.{Applied, Rejected}
use Rattle.gaz_standing.specs.KeyHistories.{HasTheKeysOf, ItemVersions, KeyHistories, view_at}
use Rattle.gaz_standing.specs.KeyHistories.{with_versions}
use Rattle.gaz_standing.specs.Indexes.{marked_item, same_mark}
use Rattle.gaz_standing.specs.Ties.{names_at}
use Rattle.gaz_standing.specs.declared.index.Mark.TheVariants.{AddressOf, PartOf}

-- ---- a gazetteer through its volumes

-- the first volume is applied, the second rejected at its record 2 by rule 21
abbrev pub two_verdicts : List Verdict
two_verdicts = Applied ∷ Rejected 2 21 ∷ []

-- street 101 came with volume 1 and went with volume 3, street 102 came with volume 2
abbrev pub three_volumes : KeyHistories
three_volumes =
    map.insert
    (map.insert map.empty (key.Street 101) ((1, Some (street 101)) ∷ (3, None) ∷ []))
    (key.Street 102) ((2, Some (street 102)) ∷ [])

pub record WorkedGazetteers : Type 0 where
  pub not_yet : map.get (view_at three_volumes 0).items (key.Street 101) ≡ None
  pub came : map.get (view_at three_volumes 1).items (key.Street 101) ≡ Some (street 101)
  pub stays : map.get (view_at three_volumes 2).items (key.Street 101) ≡ Some (street 101)
  pub went : map.get (view_at three_volumes 3).items (key.Street 101) ≡ None
  pub other_comes_later : map.get (view_at three_volumes 1).items (key.Street 102) ≡ None
  pub other_came : map.get (view_at three_volumes 2).items (key.Street 102) ≡ Some (street 102)
  pub not_used_yet : was_used (view_at three_volumes 1) (key.Street 102) ≡ false
  pub stays_used : was_used (view_at three_volumes 3) (key.Street 101) ≡ true
  pub second_judged :
      slice_get (judgements two_verdicts (view_at three_volumes)) 1
      ≡ Some (record { verdict = Rejected 2 21; view = view_at three_volumes 2 })
  pub third_not_judged : slice_get (judgements two_verdicts (view_at three_volumes)) 2 ≡ None

-- ---- as it is kept

-- streets 101 and 102 in no order of keys
abbrev pub second_first : List (Key × ItemVersions)
second_first =
    (key.Street 102, (2, Some (street 102)) ∷ [])
    ∷ (key.Street 101, (1, Some (street 101)) ∷ []) ∷ []

-- property 1002, which is a part of 1001, and its address
abbrev pub part_and_address : List (Key × Item)
part_and_address =
    (key.Blpu 1002, blpu 1002 (Some 1001))
    ∷ (key.Lpi (codes "L4"), lpi (codes "L4") 1002 Eng Approved 101) ∷ []

pub record WorkedKeeping : Type 0 where
  -- nothing ever stood at street 103
  pub its_keys :
      HasTheKeysOf (key.Street 101 ∷ key.Street 103 ∷ key.Street 102 ∷ []) second_first
  pub in_order :
      with_versions (key.Street 101 ∷ key.Street 102 ∷ []) second_first
      ≡ (key.Street 101, (1, Some (street 101)) ∷ [])
      ∷ (key.Street 102, (2, Some (street 102)) ∷ []) ∷ []
  pub never_used : with_versions (key.Street 103 ∷ []) second_first ≡ (key.Street 103, []) ∷ []
  pub one_mark : same_mark (AddressOf 1001) (AddressOf 1001) ≡ true
  pub of_another : same_mark (AddressOf 1001) (AddressOf 1002) ≡ false
  pub another_mark : same_mark (AddressOf 1001) (PartOf 1001) ≡ false
  pub marked :
      marked_item part_and_address (AddressOf 1002) (key.Lpi (codes "L4"))
      ≡ Some (lpi (codes "L4") 1002 Eng Approved 101)
  pub not_marked : marked_item part_and_address (AddressOf 1001) (key.Lpi (codes "L4")) ≡ None
  pub not_there : marked_item part_and_address (AddressOf 1002) (key.Lpi (codes "L5")) ≡ None

-- ---- what items name

-- property 1001 has the cross reference X1 from volume 1 until volume 3, which names 1002 then
abbrev pub renamed : KeyHistories
renamed =
    map.insert map.empty (key.Xref (codes "X1"))
    ((1, Some (council_tax (codes "X1") 1001)) ∷ (3, Some (council_tax (codes "X1") 1002)) ∷ [])

pub record WorkedTies : Type 0 where
  pub cross_reference : blpu_named (council_tax (codes "X1") 1001) ≡ Some 1001
  pub another_name : blpu_named (lpi (codes "L2") 1001 Eng Alternative 101) ≡ Some 1001
  pub its_address : blpu_named (lpi (codes "L2") 1001 Eng Approved 101) ≡ Some 1001
  pub its_part : blpu_named (blpu 1002 (Some 1001)) ≡ None
  pub not_yet : names_at renamed 0 1001 (key.Xref (codes "X1")) ≡ false
  pub names : names_at renamed 2 1001 (key.Xref (codes "X1")) ≡ true
  pub another : names_at renamed 2 1002 (key.Xref (codes "X1")) ≡ false
  pub no_more : names_at renamed 3 1001 (key.Xref (codes "X1")) ≡ false
  pub names_another : names_at renamed 3 1002 (key.Xref (codes "X1")) ≡ true

pub record WorkedExamples : Type 0 where
  pub on_gazetteers : WorkedGazetteers
  pub on_keeping : WorkedKeeping
  pub on_ties : WorkedTies
