-- What holds of every extract.
use Rattle.std.specs.Prelude.{◌≡◌, ◌∷◌, ℕ, List, codes, fold, Option, Some, None, true}
use Rattle.std.specs.Prelude.{if◌then◌else◌}
use Rattle.std.specs.Result.{result_ok}
use Rattle.std.specs.List.{All, filter_map}
use Rattle.std.specs.Option.{option_and_then}
use Rattle.std.specs.Str.{bytes_eq}
use Rattle.gaz_records.specs.Items.{is_item, read_item}
use Rattle.gaz_records.specs.Kinds.{identified}
use Rattle.gaz_records.specs.declared.item.Item.{Item}
use Rattle.gaz_rows.specs.Rows.{Fields, rows_of}
use Rattle.gaz_keeper.specs.Board.{Board, view_after}
use Rattle.gaz_views.specs.Lawful.{IsKeyed}
use Rattle.gaz_views.specs.View.{View, empty_view, with_item}
use Rattle.gaz_extract.specs.Extracts.{extract, items_of}

-- ---- an extract as it is read

-- the item that a row inserts, of the kind that its identifier names; none where it is no record
-- that inserts one, as a header or a trailer
abbrev pub inserted : Fields → Option Item
inserted (id ∷ (change ∷ (order ∷ fields))) =
    if bytes_eq change (codes "I")
    then option_and_then (λ k. result_ok (read_item k fields)) (identified id) else None
inserted _ = None

-- the items that the rows of a text insert, one after another
abbrev pub items_read : List ℕ → List Item
items_read text = filter_map inserted (rows_of text)

-- ---- and what it gives

-- each item of a view is one that the tables of records allow
abbrev pub HasItems : View → Type 0
HasItems v = All (λ i. is_item i ≡ true) (items_of v)

-- the rows of a text insert just the items of a view, in the order of keys; put on the empty view
-- they give what it holds
pub record GivesBack (text : List ℕ) (v : View) : Type 0 where
  pub items : items_read text ≡ items_of v
  pub holds : (fold with_item empty_view (items_read text)).items ≡ v.items

-- the extract of a view gives it back
abbrev pub ExtractsReadBack : Type 0
ExtractsReadBack = (board : Board) (c volume : ℕ) (text : List ℕ)
    → extract board c volume ≡ Some text
    → IsKeyed (view_after board c volume) → HasItems (view_after board c volume)
    → GivesBack text (view_after board c volume)
