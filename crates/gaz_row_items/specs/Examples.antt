-- Worked examples, computed from the definitions.
use Rattle.std.specs.Prelude.{◌≡◌, pos, true, false, List, [], ◌∷◌}
use Rattle.std.specs.Prelude.{Some, None}
use Rattle.std.specs.FinMap as map
use Rattle.sqlite.specs.Order.{Row}
use Rattle.sqlite.specs.declared.types.Value.TheVariants.{Int}
use Rattle.gaz_records.specs.declared.item.Item.{Item}
use Rattle.gaz_records.specs.declared.item.Item.TheVariants as item
use Rattle.gaz_records.specs.declared.key.Key.TheVariants as key
use Rattle.gaz_views.specs.Examples.{spring, street}
use Rattle.gaz_views.specs.View.{was_used}
use Rattle.gaz_overlay.specs.declared.touch.Stood.TheVariants.{NoRow, Past, Since}
use Rattle.gaz_row_items.specs.Newest.{IsNewest, IsNewestUntil, SaysStood, current_in, item_after}
use Rattle.gaz_row_items.specs.Newest.{stood_by}
use Rattle.gaz_row_items.specs.Versions.{histories_in, history_in, living, values_of, view_in}
use Rattle.gaz_row_items.specs.declared.newest.Life.{Life}

-- street 101, of another type
abbrev pub changed : Item
changed = item.Street (record { usrn = 101; street_type = 2; start = spring; end = None })

-- 1001 inserted street 101 in volume 1, changed it in volume 2 and deleted it in volume 4; 102 came
-- and went in its volume 2; the street 101 of 1002 came in volume 1 and stays
abbrev pub row_101 : Row
row_101 = Int (pos 1) ∷ values_of 1001 1 2 (street 101)

abbrev pub changed_101 : Row
changed_101 = Int (pos 2) ∷ values_of 1001 2 4 changed

abbrev pub memory_of_102 : Row
memory_of_102 = Int (pos 3) ∷ values_of 1001 2 2 (street 102)

abbrev pub of_1002 : Row
of_1002 = Int (pos 4) ∷ values_of 1002 1 1000000 (street 101)

abbrev pub four_rows : List Row
four_rows = row_101 ∷ changed_101 ∷ memory_of_102 ∷ of_1002 ∷ []

pub record WorkedViews : Type 0 where
  pub said : history_in 1001 changed_101 ≡ Some (living 2 4 changed)
  pub of_another : history_in 1001 of_1002 ≡ None
  pub nothing_yet : map.get (view_in four_rows 1001 0).items (key.Street 101) ≡ None
  pub inserted : map.get (view_in four_rows 1001 1).items (key.Street 101) ≡ Some (street 101)
  pub updated : map.get (view_in four_rows 1001 2).items (key.Street 101) ≡ Some changed
  pub stays : map.get (view_in four_rows 1001 3).items (key.Street 101) ≡ Some changed
  pub deleted : map.get (view_in four_rows 1001 4).items (key.Street 101) ≡ None
  pub use_remembered : was_used (view_in four_rows 1001 4) (key.Street 101) ≡ true
  pub came_and_went : map.get (view_in four_rows 1001 2).items (key.Street 102) ≡ None
  pub memory : was_used (view_in four_rows 1001 2) (key.Street 102) ≡ true
  pub not_before : was_used (view_in four_rows 1001 1) (key.Street 102) ≡ false
  pub of_1002 : map.get (view_in four_rows 1002 4).items (key.Street 101) ≡ Some (street 101)
  pub no_memory_of_1002 : was_used (view_in four_rows 1002 4) (key.Street 102) ≡ false

-- what the rows say of the two that street 101 of 1001 had, and of that of 1002
abbrev pub inserted_101 : Life
inserted_101 = record { born = 1; gone = 2; item = street 101 }

abbrev pub changed_101_life : Life
changed_101_life = record { born = 2; gone = 4; item = changed }

abbrev pub current_life : Life
current_life = record { born = 1; gone = 1000000; item = street 101 }

-- rows of born and gone alone, whose items can't be read
abbrev pub bare_current : Row
bare_current = Int (pos 1) ∷ Int (pos 1000000) ∷ []

abbrev pub bare_past : Row
bare_past = Int (pos 2) ∷ Int (pos 4) ∷ []

pub record WorkedNewest : Type 0 where
  pub newest : IsNewest (histories_in four_rows 1001) (key.Street 101) (Some changed_101_life)
  pub until_1 : IsNewestUntil 1 (histories_in four_rows 1001) (key.Street 101) (Some inserted_101)
  pub of_nobody : IsNewest (histories_in four_rows 1001) (key.Street 103) None
  pub after_3 : item_after 3 (Some changed_101_life) ≡ Some changed
  pub after_4 : item_after 4 (Some changed_101_life) ≡ None
  pub gone : current_in (Some changed_101_life) ≡ None
  pub current : current_in (Some current_life) ≡ Some (street 101)
  pub past : stood_by (Some changed_101_life) ≡ Past
  pub since : stood_by (Some current_life) ≡ Since 1
  pub never : stood_by None ≡ NoRow
  pub says_since : SaysStood (bare_current ∷ []) (Since 1)
  pub says_past : SaysStood (bare_past ∷ bare_current ∷ []) Past
  pub says_never : SaysStood [] NoRow
  pub says_not_never : ¬ SaysStood (bare_past ∷ []) NoRow

pub record WorkedExamples : Type 0 where
  pub on_views : WorkedViews
  pub on_newest : WorkedNewest
