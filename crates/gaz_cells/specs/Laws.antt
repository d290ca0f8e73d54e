-- What the cells of items keep to.
use Rattle.std.specs.Prelude.{◌≡◌, true, Some, Ok}
use Rattle.std.specs.Ordering.{nat_cmp, ordering_then}
use Rattle.std.specs.Cmp.Lexicographic.{slice_cmp}
use Rattle.gaz_records.specs.Items.{is_entry, is_item, item_of_text, kind_of}
use Rattle.gaz_records.specs.Keys.{key_cmp, key_of, kind_number}
use Rattle.gaz_records.specs.declared.item.Item.{Item}
use Rattle.gaz_records.specs.declared.key.Key.{Key}
use Rattle.gaz_cells.specs.Ids.{id_of, is_key, key_named, kind_in}
use Rattle.gaz_cells.specs.Columns.{CellsValue, cells_of}
use Rattle.gaz_cells.specs.Reading.{read_cells}

-- a key is the one of its kind that its id names
abbrev pub IdsReadBack : Type 0
IdsReadBack = (k : Key) → is_key k ≡ true → key_named (kind_in k) (id_of k) ≡ Some k

-- keys of a kind with one id are one key
abbrev pub IdsAreApart : Type 0
IdsAreApart = (a b : Key) → is_key a ≡ true → is_key b ≡ true → kind_in a ≡ kind_in b
    → id_of a ≡ id_of b → a ≡ b

-- keys go by kind, then by the bytes of their ids
abbrev pub IdsAreOrdered : Type 0
IdsAreOrdered = (a b : Key) → is_key a ≡ true → is_key b ≡ true
    → key_cmp a b ≡ ordering_then (nat_cmp (kind_number a) (kind_number b))
    (slice_cmp nat_cmp (id_of a) (id_of b))

-- the key of an entry is a key of the entry's kind, and the entry's body reads back as the entry
pub record CellsFit (x : Item) : Type 0 where
  pub key : is_key (key_of x) ≡ true
  pub kind : kind_in (key_of x) ≡ kind_of x
  pub body : item_of_text (kind_of x) ((cells_of x).body) ≡ Ok x

-- an entry's cells are those of its key, and say the entry
pub record CellsReadBack : Type 0 where
  pub fits : (x : Item) → is_item x ≡ true → is_entry x ≡ true → CellsFit x
  pub back : (x : Item) → is_item x ≡ true → is_entry x ≡ true → read_cells (cells_of x) ≡ Ok x

-- cells that say an item are the cells of that item
abbrev pub CellsFollow : Type 0
CellsFollow = (c : CellsValue) (x : Item) → read_cells c ≡ Ok x → cells_of x ≡ c

-- what cells say is an entry
abbrev pub CellsSayEntries : Type 0
CellsSayEntries = (c : CellsValue) (x : Item) → read_cells c ≡ Ok x → is_entry x ≡ true
