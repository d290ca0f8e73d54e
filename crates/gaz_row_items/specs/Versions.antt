-- What the rows of `version2` stand for.
use Rattle.std.specs.Prelude.{◌≡◌, ℕ, pos, negsuc, ◌==◌, if◌then◌else◌, List, []}
use Rattle.std.specs.Prelude.{Option, None, option_map}
use Rattle.std.specs.Result.{result_ok}
use Rattle.std.specs.List.{filter_map}
use Rattle.sqlite.specs.declared.types.Value.{Value}
use Rattle.sqlite.specs.declared.types.Value.TheVariants.{Null, Int, Real, Text, Blob}
use Rattle.sqlite.specs.Order.{Row}
use Rattle.gaz_records.specs.Keys.{key_of}
use Rattle.gaz_records.specs.declared.item.Item.{Item}
use Rattle.gaz_views.specs.View.{View}
use Rattle.gaz_views.specs.declared.custody.Custody.{Custody}
use Rattle.gaz_cells.specs.Columns.{CellsValue, cells_of}
use Rattle.gaz_cells.specs.Custody.{CustodyValue, custody_cells, custody_in}
use Rattle.gaz_cells.specs.Reading.{read_cells}
use Rattle.gaz_overlay.specs.Passages.{PassageRow}
use Rattle.gaz_overlay.specs.Rows.{HistoryRow, view_of_rows}
use Rattle.gaz_tables.specs.Versions.{blpu_of, body_of, born_of, cust_of, gone_of, hop_of, id_of}
use Rattle.gaz_tables.specs.Versions.{kind_of, lang_of, live_of, street_of, version_values}

-- ---- values

-- a whole number, or 0 where there is none
abbrev pub number_in : Value → ℕ
number_in (Int (pos n)) = n
number_in (Int (negsuc n)) = 0
number_in Null = 0
number_in (Real x) = 0
number_in (Text t) = 0
number_in (Blob b) = 0

-- a text, or the empty one where there is none
abbrev pub text_in : Value → List ℕ
text_in (Text t) = t
text_in Null = []
text_in (Int n) = []
text_in (Real x) = []
text_in (Blob b) = []

-- the value is a whole number
abbrev pub IsWhole : Value → Type 0
IsWhole v = v ≡ Int (pos (number_in v))

-- or a text
abbrev pub IsText : Value → Type 0
IsText v = v ≡ Text (text_in v)

-- ---- rows

abbrev pub cells_in : Row → CellsValue
cells_in r = record {
  kind = number_in (kind_of r);
  id = text_in (id_of r);
  links = record {
    blpu = number_in (blpu_of r);
    street = number_in (street_of r);
    lang = number_in (lang_of r);
    live = number_in (live_of r);
  };
  body = text_in (body_of r);
}

-- the item that a row's cells say, where they say one
abbrev pub item_in : Row → Option Item
item_in r = result_ok (read_cells (cells_in r))

-- an item stands under its own key from the volume in which it was born until that in which it went
abbrev pub living : ℕ → ℕ → Item → HistoryRow
living born gone x = record { key = key_of x; born = born; gone = gone; item = x }

-- what a row says of a custodian: nothing where it is another's, or its cells say no item
abbrev pub history_in : ℕ → Row → Option HistoryRow
history_in c r =
    if number_in (cust_of r) == c
    then option_map (living (number_in (born_of r)) (number_in (gone_of r))) (item_in r)
    else None

-- a custodian's histories
abbrev pub histories_in : List Row → ℕ → List HistoryRow
histories_in rows c = filter_map (history_in c) rows

-- ---- rows of kind 92

abbrev pub custody_cells_in : Row → CustodyValue
custody_cells_in r = record { cells = cells_in r; hop = number_in (hop_of r) }

-- this became of a number in the volume in which it was born, until that in which it went
abbrev pub passing : ℕ → ℕ → ℕ × Custody → PassageRow
passing born gone x = record { uprn = x.0; born = born; gone = gone; custody = x.1 }

-- what a row says of a custodian's numbers: nothing where it is another's, or its cells don't say
-- what became of one
abbrev pub passage_in : ℕ → Row → Option PassageRow
passage_in c r =
    if number_in (cust_of r) == c
    then option_map (passing (number_in (born_of r)) (number_in (gone_of r)))
    (custody_in (custody_cells_in r))
    else None

-- what became of a custodian's numbers
abbrev pub passages_in : List Row → ℕ → List PassageRow
passages_in rows c = filter_map (passage_in c) rows

-- ---- views

-- a custodian's view after a volume: an item holds where a row has born <= volume < gone, and a key
-- was used where one has born <= volume. What last became of a number is said by the row of kind 92
-- that has born <= volume < gone, and its BLPU's key was used where one has born <= volume
abbrev pub view_in : List Row → ℕ → ℕ → View
view_in rows c volume = view_of_rows (histories_in rows c) (passages_in rows c) volume

-- ---- what is written

-- the values of the row that says so
abbrev pub values_of : ℕ → ℕ → ℕ → Item → Row
values_of c born gone x =
    let cells = cells_of x in
    let links = cells.links in
    version_values c cells.kind cells.id (pos links.blpu) links.street links.lang (links.live == 1)
    born gone cells.body 0

-- the values of the row of kind 92 that says so of a number
abbrev pub passage_values : ℕ → ℕ → ℕ → ℕ → Custody → Row
passage_values c born gone uprn custody =
    let cells = (custody_cells uprn custody).cells in
    let links = cells.links in
    version_values c cells.kind cells.id (pos links.blpu) links.street links.lang (links.live == 1)
    born gone cells.body (custody_cells uprn custody).hop
