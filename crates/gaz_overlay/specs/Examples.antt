-- Worked examples, computed from the definitions.
use Rattle.std.specs.Prelude.{◌≡◌, ℕ, Bool, true, false, List, [], ◌∷◌, Option, Some, None}
use Rattle.std.specs.FinMap as map
use Rattle.gaz_records.specs.declared.item.Item.{Item}
use Rattle.gaz_records.specs.declared.key.Key.TheVariants as key
use Rattle.gaz_views.specs.Examples.{one_street, street}
use Rattle.gaz_views.specs.View.{View, empty_view, was_used, with_item, without_key}
use Rattle.gaz_overlay.specs.Changes.{Changes, is_touched, no_changes, stood_in, was_used_in}
use Rattle.gaz_overlay.specs.Changes.{with_put, with_taken, with_touched}
use Rattle.gaz_overlay.specs.Laid.{laid, with_copied}
use Rattle.gaz_overlay.specs.Over.{IsStood, key_view}
use Rattle.gaz_overlay.specs.Questions.{both, in_order}
use Rattle.gaz_overlay.specs.Rows.{AreHistories, HasCurrent, HistoryRow, closed, added, holds_after}
use Rattle.gaz_overlay.specs.Rows.{is_born_by, view_after, written}
use Rattle.gaz_overlay.specs.Writings.{writing_at, writing_of}
use Rattle.gaz_overlay.specs.declared.touch.NewRow.{NewRow}
use Rattle.gaz_overlay.specs.declared.touch.Stood.TheVariants.{NoRow, Past, Since}
use Rattle.gaz_overlay.specs.declared.touch.Touch.{Touch}

-- ---- views

-- street 102 is put over the view that has 101 alone
abbrev pub second_street : View
second_street = laid one_street (with_item empty_view (street 102))

-- a copy of 101
abbrev pub first_copied : View
first_copied = with_copied empty_view (key.Street 101) (Some (street 101))

-- or 101 is taken, once it is copied
abbrev pub first_taken : View
first_taken = laid one_street (without_key first_copied (key.Street 101))

pub record WorkedViews : Type 0 where
  pub stays : map.get second_street.items (key.Street 101) ≡ Some (street 101)
  pub comes : map.get second_street.items (key.Street 102) ≡ Some (street 102)
  pub both_used : was_used second_street (key.Street 101) ≡ true
  pub third_not_used : was_used second_street (key.Street 103) ≡ false
  pub goes : map.get first_taken.items (key.Street 101) ≡ None
  pub still_used : was_used first_taken (key.Street 101) ≡ true
  pub stands_there : IsStood (Since 1) (key_view one_street (key.Street 101))
  pub never_stood : IsStood NoRow (key_view one_street (key.Street 102))
  pub merged : both (with_item empty_view (street 102)) (key.Street 101 ∷ key.Street 102 ∷ [])
      (key.Street 102 ∷ []) ≡ key.Street 101 ∷ key.Street 102 ∷ []
  pub once_each : in_order (key.Street 102 ∷ key.Street 101 ∷ key.Street 102 ∷ [])
      ≡ key.Street 101 ∷ key.Street 102 ∷ []

-- ---- changes

-- street 101, whose row was born in volume 1, is put again
abbrev pub first_put : Changes
first_put =
    with_put (with_touched no_changes (key.Street 101) (Since 1) (Some (street 101))) (street 101)

-- street 101 is put again, and 102, which never was, is put and taken
abbrev pub two_touched : Changes
two_touched =
    with_taken (with_put (with_touched first_put (key.Street 102) NoRow None) (street 102))
    (key.Street 102)

-- or it is put without the item that stood there
abbrev pub put_at_once : Changes
put_at_once = with_put (with_touched no_changes (key.Street 101) (Since 1) None) (street 101)

pub record WorkedChanges : Type 0 where
  pub first_touched : is_touched two_touched (key.Street 101) ≡ true
  pub other_not_touched : is_touched two_touched (key.Street 103) ≡ false
  pub first_stood : stood_in two_touched.touched (key.Street 101) ≡ Since 1
  pub second_stood : stood_in two_touched.touched (key.Street 102) ≡ NoRow
  pub put_and_taken_used : was_used_in two_touched (key.Street 102) ≡ true
  pub other_not_used : was_used_in two_touched (key.Street 103) ≡ false
  pub past_used : was_used_in (with_touched no_changes (key.Street 102) Past None) (key.Street 102)
      ≡ true
  pub second_closes_nothing : writing_at two_touched (key.Street 102)
      ≡ record { closes = None; adds = Some (record { item = street 102; current = false }) }
  pub other_not_written : writing_at two_touched (key.Street 103)
      ≡ record { closes = None; adds = None }
  pub at_once_there : map.get put_at_once.view.items (key.Street 101) ≡ Some (street 101)
  pub at_once_written : writing_at put_at_once (key.Street 101)
      ≡ record { closes = Some 1; adds = Some (record { item = street 101; current = true }) }

-- a key whose current row was born in volume 1, or of which there was none, with the item put last
abbrev pub had : Option Item → Touch
had last = record { stood = Since 1; last = last }

abbrev pub had_none : Option Item → Touch
had_none last = record { stood = NoRow; last = last }

abbrev pub row_of : ℕ → Bool → Option NewRow
row_of usrn current = Some (record { item = street usrn; current = current })

pub record WorkedWritings : Type 0 where
  pub inserted : writing_of (had_none (Some (street 102))) true
      ≡ record { closes = None; adds = row_of 102 true }
  pub came_and_went : writing_of (had_none (Some (street 102))) false
      ≡ record { closes = None; adds = row_of 102 false }
  pub inserted_again : writing_of (record { stood = Past; last = Some (street 102) }) true
      ≡ record { closes = None; adds = row_of 102 true }
  pub replaced : writing_of (had (Some (street 101))) true
      ≡ record { closes = Some 1; adds = row_of 101 true }
  pub deleted : writing_of (had None) false ≡ record { closes = Some 1; adds = None }
  pub replaced_and_deleted : writing_of (had (Some (street 101))) false
      ≡ record { closes = Some 1; adds = row_of 101 false }
  pub only_touched : writing_of (had None) true ≡ record { closes = None; adds = None }
  pub nothing_to_take : writing_of (had_none None) false ≡ record { closes = None; adds = None }

-- ---- rows

abbrev pub row : ℕ → ℕ → ℕ → HistoryRow
row usrn born gone = record { key = key.Street usrn; born = born; gone = gone; item = street usrn }

-- street 101 came with volume 1 and stays; 102 came and went with volume 2; 103 was there from
-- volume 1 until volume 2
abbrev pub three_streets : List HistoryRow
three_streets = row 101 1 1000000 ∷ row 102 2 2 ∷ row 103 1 2 ∷ []

-- street 101 was put again in volume 3
abbrev pub put_again : List HistoryRow
put_again = row 101 1 3 ∷ row 101 3 1000000 ∷ []

pub record WorkedRows : Type 0 where
  pub through_three : AreHistories 3 put_again
  pub current_since : HasCurrent put_again (key.Street 101) 3
  pub not_born : holds_after 0 (row 103 1 2) ≡ false
  pub holds : holds_after 1 (row 103 1 2) ≡ true
  pub gone : holds_after 2 (row 103 1 2) ≡ false
  pub never_holds : holds_after 2 (row 102 2 2) ≡ false
  pub but_was_born : is_born_by 2 (row 102 2 2) ≡ true
  pub in_the_view : map.get (view_after three_streets 1).items (key.Street 103) ≡ Some (street 103)
  pub gone_from_it : map.get (view_after three_streets 2).items (key.Street 103) ≡ None
  pub current_there : map.get (view_after three_streets 9).items (key.Street 101)
      ≡ Some (street 101)
  pub use_remembered : was_used (view_after three_streets 2) (key.Street 102) ≡ true
  pub not_used_yet : was_used (view_after three_streets 1) (key.Street 102) ≡ false
  pub closed_now : closed 3 two_touched (row 101 1 1000000) ≡ row 101 1 3
  pub not_closed : closed 3 two_touched (row 103 1 2) ≡ row 103 1 2
  pub added_now : added 3 two_touched (key.Street 101) ≡ Some (row 101 3 1000000)
  pub passed_now : added 3 two_touched (key.Street 102) ≡ Some (row 102 3 3)
  pub all_written : written 3 two_touched (row 101 1 1000000 ∷ [])
      ≡ row 101 1 3 ∷ row 101 3 1000000 ∷ row 102 3 3 ∷ []

pub record WorkedExamples : Type 0 where
  pub on_views : WorkedViews
  pub on_changes : WorkedChanges
  pub on_writings : WorkedWritings
  pub on_rows : WorkedRows
