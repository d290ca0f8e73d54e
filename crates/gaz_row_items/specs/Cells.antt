-- The cells of a row that is written, of an item or of what became of a number.
use Rattle.std.specs.Prelude.{◌≡◌, ◌==◌, ℕ, pos}
use Rattle.std.specs.String.{string_bytes}
use Rattle.sqlite.specs.Order.{Row}
use Rattle.gaz_records.specs.declared.item.Item.{Item}
use Rattle.gaz_views.specs.declared.custody.Custody.{Custody}
use Rattle.gaz_cells.specs.Columns.{CellsValue}
use Rattle.gaz_tables.specs.Versions.{version_values}
use Rattle.gaz_row_items.specs.Versions.{passage_values, values_of}
use Rattle.gaz_row_items.specs.declared.row_cells.RowCells.{RowCells}

-- the values of a row of a custodian's, with these cells
abbrev pub row_values : ℕ → ℕ → ℕ → RowCells → Row
row_values c born gone cells = version_values c cells.kind (string_bytes cells.id) cells.blpu
    cells.street cells.lang cells.live born gone (string_bytes cells.body) cells.hop

-- they are these, with a hop
abbrev pub HasCells : CellsValue → ℕ → RowCells → Type 0
HasCells these hop cells = (c born gone : ℕ) → row_values c born gone cells
    ≡ version_values c these.kind these.id (pos these.links.blpu) these.links.street
    these.links.lang (these.links.live == 1) born gone these.body hop

-- they are an item's
abbrev pub AreCellsOf : Item → RowCells → Type 0
AreCellsOf x cells =
    (c born gone : ℕ) → row_values c born gone cells ≡ values_of c born gone x

-- they are those of what became of a number
abbrev pub ArePassageCells : ℕ → Custody → RowCells → Type 0
ArePassageCells uprn custody cells =
    (c born gone : ℕ) → row_values c born gone cells ≡ passage_values c born gone uprn custody
