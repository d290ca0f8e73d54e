-- Worked examples of numbers that are passed on, computed from the definitions.
use Rattle.std.specs.Prelude.{◌≡◌, true, false, [], ◌∷◌, Some, None}
use Rattle.std.specs.FinMap as map
use Rattle.gaz_records.specs.declared.item.Item.TheVariants as item
use Rattle.gaz_records.specs.declared.key.Key.TheVariants as key
use Rattle.gaz_views.specs.CustodyExamples.{alone, given_up}
use Rattle.gaz_views.specs.Examples.{street}
use Rattle.gaz_views.specs.View.{custody_at, empty_view, holds, was_used, with_adoption}
use Rattle.gaz_views.specs.View.{with_release}
use Rattle.gaz_views.specs.declared.custody.Custody.TheVariants.{Adopted, Released}
use Rattle.gaz_views.specs.Numbered.{with_adopted}
use Rattle.gaz_standing.specs.KeyHistories.{KeyHistories}
use Rattle.gaz_ledger.specs.Custodies.{Custodies, IsPassing, view_with, with_passing}
use Rattle.gaz_ledger.specs.Passages.{with_passage}

-- number 500, where no BLPU ever stood, released to 1002 with volume 1, and adopted with volume 3
abbrev pub two_passings : Custodies
two_passings =
    map.insert map.empty 500 ((1, Some (Released 1002 1)) ∷ (3, Some (Adopted 1002 2)) ∷ [])

-- what stood at its BLPU's key: nothing until volume 3
abbrev pub its_key : KeyHistories
its_key = map.insert map.empty (key.Blpu 500) ((1, None) ∷ (3, Some (item.Blpu alone)) ∷ [])

pub record WorkedPassing : Type 0 where
  pub not_yet : custody_at (view_with its_key two_passings 0) 500 ≡ None
  pub not_used_yet : was_used (view_with its_key two_passings 0) (key.Blpu 500) ≡ false
  pub released : custody_at (view_with its_key two_passings 1) 500 ≡ Some (Released 1002 1)
  pub none_stands : holds (view_with its_key two_passings 1) (key.Blpu 500) ≡ false
  pub but_is_used : was_used (view_with its_key two_passings 1) (key.Blpu 500) ≡ true
  -- the older volume has the older entry, and the newer one the newer alone
  pub still_released : custody_at (view_with its_key two_passings 2) 500 ≡ Some (Released 1002 1)
  pub adopted : custody_at (view_with its_key two_passings 3) 500 ≡ Some (Adopted 1002 2)
  pub stands :
      map.get (view_with its_key two_passings 3).items (key.Blpu 500) ≡ Some (item.Blpu alone)
  pub another_number : custody_at (view_with its_key two_passings 3) 501 ≡ None
  pub within : IsPassing 2 two_passings (500 ∷ [])
  pub touched_by_none : IsPassing 2 two_passings [] → ⊥
  pub begins_too_late : IsPassing 1 two_passings (500 ∷ []) → ⊥
  pub as_released :
      with_passing empty_view 500 (Released 1002 1) None ≡ with_release empty_view 500 1002 1
  pub as_adopted :
      with_passing given_up 500 (Adopted 1002 2) (Some (item.Blpu alone))
      ≡ with_adoption given_up alone 1002 2
  pub adopts_a_blpu :
      with_adopted given_up (item.Blpu alone) 1002 2 ≡ with_adoption given_up alone 1002 2
  -- put back from volume 2 on
  pub not_put_back_yet :
      custody_at (with_passage 2 500 (Released 1002 1) 1 empty_view) 500 ≡ None
  pub put_back :
      custody_at (with_passage 2 500 (Released 1002 1) 2 empty_view) 500 ≡ Some (Released 1002 1)
  pub put_back_used :
      was_used (with_passage 2 500 (Released 1002 1) 2 empty_view) (key.Blpu 500) ≡ true
  pub adopts_no_street : with_adopted given_up (street 101) 1002 2 ≡ given_up
