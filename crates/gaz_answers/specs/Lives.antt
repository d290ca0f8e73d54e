-- What the rows of `version2` say one after the other, in the order of their rowids.
use Rattle.std.specs.Prelude.{◌≡◌, ◌≤◌, ◌<◌, ◌==◌, ℕ, ℤ, pos, ◌<ℤ◌, ◌≤ℤ◌, ⊤, Bool, true, not, All}
use Rattle.std.specs.Prelude.{if◌then◌else◌, List, [], length, map, filter}
use Rattle.std.specs.Prelude.{Option, None, Some, option_map}
use Rattle.sqlite.specs.declared.types.Value.{Value}
use Rattle.sqlite.specs.declared.types.Value.TheVariants.{Int}
use Rattle.sqlite.specs.Edit.{id_in}
use Rattle.sqlite.specs.Order.{Row, column}
use Rattle.sqlite_rules.specs.Lists.{Has}
use Rattle.sqlite_trees.specs.Tree.{IsAscending}
use Rattle.gaz_records.specs.Items.{is_entry}
use Rattle.gaz_records.specs.declared.item.Item.{Item}
use Rattle.gaz_cells.specs.Custody.{custody_kind}
use Rattle.gaz_overlay.specs.Rows.{never}
use Rattle.gaz_tables.specs.Rowids.{IsPlacedBehind, rowid_of}
use Rattle.gaz_tables.specs.Shows.{IsAnyRow}
use Rattle.gaz_tables.specs.Versions.{blpu_of, born_of, cust_of, gone_of, kind_of, lang_of}
use Rattle.gaz_tables.specs.Versions.{live_of, street_of}
use Rattle.gaz_row_items.specs.Versions.{IsWhole, history_in, item_in, number_in}
use Rattle.gaz_kept.specs.Kept.{IsCode, IsVersion}
use Rattle.gaz_loaded.specs.Telling.{told}
use Rattle.gaz_loaded.specs.declared.listed.Life.{Life}
use Rattle.gaz_answers.specs.Answers.{most_rows}
use Rattle.gaz_answers.specs.declared.life_rows.LifePage.{LifePage}
use Rattle.gaz_answers.specs.declared.life_rows.LifePage.TheVariants.{Behind, Lives}

-- ---- what a row says

-- the row is an item's: of any kind but 92
abbrev pub is_items : Row → Bool
is_items r = not (number_in (kind_of r) == custody_kind)

-- the volume in which an item went, or none while it is current
abbrev pub gone_in : ℕ → Option ℕ
gone_in n = if n == never then None else Some n

abbrev pub life_with : Row → Item → Life
life_with r x = record {
  place = id_in (rowid_of r);
  code = number_in (cust_of r);
  born = number_in (born_of r);
  gone = gone_in (number_in (gone_of r));
  item = x;
}

-- what a row says, where its cells say an item
abbrev pub life_in : Row → Option Life
life_in r = option_map (life_with r) (item_in r)

-- each row of an item says a life, and these are they in turn
abbrev pub SayLives : List Row → List Life → Type 0
SayLives rows lives = map life_in (filter is_items rows) ≡ map Some lives

-- what is told of the rows of a page: their lives, none only where there is no row; or that none of
-- them is an item's up to the rowid of one
abbrev pub IsLifePage : List Row → LifePage → Type 0
IsLifePage rows (Lives lives) = SayLives rows lives.items × (lives.items ≡ [] → rows ≡ [])
IsLifePage rows (Behind last) = SayLives rows [] × (r : Row) × Has rows r × (rowid_of r ≡ Int last)

-- a row is an item's or says what became of a number, under a rowid, as a store writes it
pub record ShowsVersion (r : Row) : Type 0 where
  pub version : IsVersion r
  pub place : ℤ
  pub rowid : rowid_of r ≡ Int place

-- the row is an item's
abbrev pub ShowsLife : Row → Type 0
ShowsLife r = ShowsVersion r × (is_items r ≡ true)

-- ---- what is read of a row

-- a whole number, also one below 0, stands in a column
abbrev pub HasNumber : Row → ℕ → Type 0
HasNumber r place = (n : ℤ) × (column r place ≡ Int n)

-- the value is a whole number below 256
abbrev pub IsSmall : Value → Type 0
IsSmall v = IsWhole v × (number_in v < 256)

-- numbers stand where the item is looked for
pub record HasLinks (r : Row) : Type 0 where
  pub blpu : IsWhole (blpu_of r)
  pub street : IsWhole (street_of r)
  pub lang : IsSmall (lang_of r)
  pub live : IsSmall (live_of r)

-- a custodian's code stands in the row
abbrev pub HasCode : Row → Type 0
HasCode r = IsWhole (cust_of r) × IsCode (number_in (cust_of r))

-- ---- what it is of the table

-- a life has a row's rowid and custodian, and is that row's history
pub record SaysLife (r : Row) (life : Life) : Type 0 where
  pub place : rowid_of r ≡ Int life.place
  pub custodian : cust_of r ≡ Int (pos life.code)
  pub history : history_in life.code r ≡ Some (told life).life

-- the lives of a page are of entries
abbrev pub AreEntries : LifePage → Type 0
AreEntries (Lives lives) = All (λ life. is_entry life.item ≡ true) lives.items
AreEntries (Behind last) = ⊤

-- ---- what is told of a table's rows

-- the row's rowid comes behind one, or any row where none is given
abbrev pub IsRowBehind : Option ℤ → Row → Type 0
IsRowBehind None = IsAnyRow
IsRowBehind (Some after) = IsPlacedBehind after

-- the row's rowid isn't behind one
abbrev pub IsRowUntil : ℤ → Row → Type 0
IsRowUntil last r = (n : ℤ) × (rowid_of r ≡ Int n) × (n ≤ℤ last)

-- the lives of the items' rows behind a rowid, from the first on, with none left out between
pub record TellsLives (after : Option ℤ) (lives : List Life) (rows : List Row)
    : Type 0 where
  -- each is that of a row
  pub said : (life : Life) → Has lives life
      → (r : Row) × Has rows r × IsRowBehind after r × SaysLife r life
  -- each row of an item that isn't behind one of them is said
  pub complete : (r : Row) (last : Life) → Has rows r → is_items r ≡ true → Has lives last
      → IsRowBehind after r → IsRowUntil last.place r
      → (life : Life) × Has lives life × SaysLife r life
  pub rising : IsAscending (λ a b. a.place <ℤ b.place) lives
  -- there is none only where no row of an item is left
  pub ends : lives ≡ [] → (r : Row) → Has rows r → is_items r ≡ true → ¬ IsRowBehind after r
  pub few : length lives ≤ most_rows

-- what is asked for behind a rowid is just what is behind another: no item's row is between them
pub record GoesOn (after place : Option ℤ) (rows : List Row) : Type 0 where
  pub to : (r : Row) → Has rows r → is_items r ≡ true → IsRowBehind after r → IsRowBehind place r
  pub from : (r : Row) → IsRowBehind place r → IsRowBehind after r

-- a page tells the lives behind a rowid, or from where on they come
abbrev pub TellsPage : Option ℤ → List Row → LifePage → Type 0
TellsPage after rows (Lives lives) = TellsLives after lives.items rows
TellsPage after rows (Behind last) = GoesOn after (Some last) rows
