-- Worked examples of rows of kind 92, computed from the definitions.
use Rattle.std.specs.Prelude.{◌≡◌, pos, true, false, List, [], ◌∷◌, ◌++◌, codes, take}
use Rattle.std.specs.Prelude.{Some, None}
use Rattle.sqlite.specs.Order.{Row}
use Rattle.sqlite.specs.declared.types.Value.TheVariants.{Int, Text}
use Rattle.gaz_records.specs.declared.key.Key.TheVariants as key
use Rattle.gaz_views.specs.View.{custody_at, was_used}
use Rattle.gaz_views.specs.declared.custody.Custody.TheVariants.{Adopted, Released}
use Rattle.gaz_overlay.specs.Passages.{PassageRow}
use Rattle.gaz_tables.specs.Custody.{custody_shown, listed_shown}
use Rattle.gaz_row_items.specs.Examples.{changed_101, four_rows}
use Rattle.gaz_row_items.specs.NewestPassages.{IsBare, SaysPassed, custody_shown_in}
use Rattle.gaz_row_items.specs.Versions.{history_in, passage_in, passage_values}
use Rattle.gaz_row_items.specs.Versions.{passing, view_in}
use Rattle.gaz_row_items.specs.declared.passages.Passed.{Passed}

-- 1001 gave number 500 up to 1002 with volume 1, and took it back with volume 3
abbrev pub given_up : PassageRow
given_up = passing 1 3 (500, Released 1002 1)

abbrev pub taken_back : PassageRow
taken_back = passing 3 1000000 (500, Adopted 1002 2)

abbrev pub given_row : Row
given_row = Int (pos 5) ∷ passage_values 1001 1 3 500 (Released 1002 1)

abbrev pub taken_row : Row
taken_row = Int (pos 6) ∷ passage_values 1001 3 1000000 500 (Adopted 1002 2)

abbrev pub two_rows : List Row
two_rows = given_row ∷ taken_row ∷ []

-- the first of them with hop 0
abbrev pub without_hop : Row
without_hop = take 11 given_row ++ Int (pos 0) ∷ []

-- and with a text in it
abbrev pub with_text : Row
with_text = take 10 given_row ++ Text (codes "K1") ∷ Int (pos 1) ∷ []

pub record WorkedPassing : Type 0 where
  pub said : passage_in 1001 given_row ≡ Some given_up
  pub of_another : passage_in 1002 given_row ≡ None
  pub no_item : history_in 1001 given_row ≡ None
  pub no_passage : passage_in 1001 changed_101 ≡ None
  pub not_yet : custody_at (view_in two_rows 1001 0) 500 ≡ None
  pub not_used_yet : was_used (view_in two_rows 1001 0) (key.Blpu 500) ≡ false
  pub released : custody_at (view_in two_rows 1001 2) 500 ≡ Some (Released 1002 1)
  pub but_used : was_used (view_in two_rows 1001 2) (key.Blpu 500) ≡ true
  pub adopted : custody_at (view_in two_rows 1001 3) 500 ≡ Some (Adopted 1002 2)
  pub of_1002 : custody_at (view_in two_rows 1002 3) 500 ≡ None
  pub items_pass_nothing : custody_at (view_in four_rows 1001 4) 500 ≡ None

abbrev pub told_taken : Passed
told_taken = record { born = 3; custody = Adopted 1002 2 }

pub record WorkedTold : Type 0 where
  pub taken : SaysPassed 0 (custody_shown taken_row) told_taken
  -- with a column before
  pub listed : SaysPassed 1 (listed_shown taken_row) told_taken
  pub damaged : custody_shown_in 0 (custody_shown without_hop) ≡ None
  pub texts : ¬ IsBare 0 (custody_shown with_text)

pub record WorkedPassages : Type 0 where
  pub on_passing : WorkedPassing
  pub on_told : WorkedTold
