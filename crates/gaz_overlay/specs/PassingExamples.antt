-- Worked examples of numbers that are passed on, computed from the definitions.
use Rattle.std.specs.Prelude.{◌≡◌, true, false, List, [], ◌∷◌, Some, None}
use Rattle.std.specs.FinMap as map
use Rattle.gaz_records.specs.declared.item.Item.TheVariants as item
use Rattle.gaz_records.specs.declared.key.Key.TheVariants as key
use Rattle.gaz_views.specs.CustodyExamples.{alone, given_up}
use Rattle.gaz_views.specs.Examples.{one_street}
use Rattle.gaz_views.specs.View.{View, custody_at, empty_view, was_used, with_release}
use Rattle.gaz_views.specs.declared.custody.Custody.TheVariants.{Adopted, Released}
use Rattle.gaz_overlay.specs.Changes.{Changes, is_passed_key, no_changes, was_used_in, with_adopted}
use Rattle.gaz_overlay.specs.Changes.{with_released, with_touched}
use Rattle.gaz_overlay.specs.Laid.{laid}
use Rattle.gaz_overlay.specs.Passages.{PassageRow, custody_after, has_passed, with_passages}
use Rattle.gaz_overlay.specs.Writings.{passage_at, writing_at}
use Rattle.gaz_overlay.specs.declared.touch.Stood.TheVariants.{NoRow, Past}

-- ---- views: number 500 was released to 1002 at the first hop, and is released again at the third

abbrev pub twice : View
twice = laid given_up (with_release empty_view 500 1003 3)

pub record WorkedLaid : Type 0 where
  pub last_says : custody_at (laid given_up empty_view) 500 ≡ Some (Released 1002 1)
  pub changes_say : custody_at twice 500 ≡ Some (Released 1003 3)
  pub of_another : custody_at twice 501 ≡ None

-- ---- changes: a file adopts property 500 and releases it again. In the tables a passage of it was
-- born in volume 2

abbrev pub adopted : Changes
adopted =
    with_adopted (with_touched no_changes (key.Blpu 500) Past None) (item.Blpu alone)
    1001 3 (Some 2)

abbrev pub handed_on : Changes
handed_on = with_released adopted 500 1003 4 (Some 9)

-- or it releases 500, of which the tables have nothing
abbrev pub only_released : Changes
only_released = with_released (with_touched no_changes (key.Blpu 500) NoRow None) 500 1002 1 None

pub record WorkedChanges : Type 0 where
  pub adoption : passage_at adopted 500
      ≡ Some (record { closes = Some 2; custody = Adopted 1001 3 })
  -- its one row of the volume is the last, and what was told first is what is closed
  pub last_of_two : passage_at handed_on 500
      ≡ Some (record { closes = Some 2; custody = Released 1003 4 })
  pub of_another : passage_at handed_on 501 ≡ None
  pub came_and_went : writing_at handed_on (key.Blpu 500)
      ≡ record { closes = None; adds = Some (record { item = item.Blpu alone; current = false }) }
  pub nothing_closed : passage_at only_released 500
      ≡ Some (record { closes = None; custody = Released 1002 1 })
  -- no row of an item is written, and the key is used all the same
  pub no_item : writing_at only_released (key.Blpu 500) ≡ record { closes = None; adds = None }
  pub key_used : was_used_in only_released (key.Blpu 500) ≡ true
  pub its_key : is_passed_key only_released (key.Blpu 500) ≡ true
  pub street_not : is_passed_key only_released (key.Street 500) ≡ false

-- ---- rows: 500 was released in volume 1 and adopted in volume 3

abbrev pub two_passages : List PassageRow
two_passages =
    record { uprn = 500; born = 1; gone = 3; custody = Released 1002 1 }
    ∷ record { uprn = 500; born = 3; gone = 1000000; custody = Adopted 1002 2 } ∷ []

pub record WorkedPassages : Type 0 where
  pub not_yet : map.get (custody_after two_passages 0) 500 ≡ None
  pub not_used_yet : has_passed two_passages 0 (key.Blpu 500) ≡ false
  pub released : map.get (custody_after two_passages 2) 500 ≡ Some (Released 1002 1)
  pub adopted : map.get (custody_after two_passages 3) 500 ≡ Some (Adopted 1002 2)
  pub of_another : map.get (custody_after two_passages 3) 501 ≡ None
  pub used : was_used (with_passages one_street two_passages 1) (key.Blpu 500) ≡ true
  pub used_too : was_used (with_passages one_street two_passages 1) (key.Street 101) ≡ true

pub record WorkedPassing : Type 0 where
  pub on_views : WorkedLaid
  pub on_changes : WorkedChanges
  pub on_rows : WorkedPassages
