-- What the rows of addresses say, of id and body.
use Rattle.std.specs.Prelude.{◌≡◌, ⊤, List, [], ◌∷◌, Option, Some, None}
use Rattle.std.specs.List.Sorted.{IsStrictlySortedBy}
use Rattle.sqlite.specs.Order.{Row, column}
use Rattle.sqlite_rules.specs.Lists.{Has}
use Rattle.gaz_records.specs.Keys.{key_cmp}
use Rattle.gaz_records.specs.declared.item.Item.{Item}
use Rattle.gaz_records.specs.declared.item.Kind.TheVariants as kind
use Rattle.gaz_records.specs.declared.key.Key.{Key}
use Rattle.gaz_cells.specs.Ids.{key_named}
use Rattle.gaz_row_items.specs.Decoding.{Each, IsItemAt, NamesKey, ShowsItem}
use Rattle.gaz_row_items.specs.Versions.{text_in}

-- the row's id names the key of an address
abbrev pub Names : Row → Key → Type 0
Names r k = key_named kind.Lpi (text_in (column r 0)) ≡ Some k

-- these are the keys that the rows name, in key order
pub record SaysKeys (rows : List Row) (keys : List Key) : Type 0 where
  pub named : (r : Row) → Has rows r → (k : Key) × Names r k × Has keys k
  pub only : (k : Key) → Has keys k → (r : Row) × Has rows r × Names r k
  pub rising : IsStrictlySortedBy key_cmp keys

-- a row of the key says the address
pub record SaysAddress (rows : List Row) (k : Key) (x : Item) : Type 0 where
  pub row : Row
  pub there : Has rows row
  pub named : Names row k
  pub item : IsItemAt row 1 k x

-- the rows say of an address that it is the first key's; none where there is no key
abbrev pub SaysFirst : List Row → List Key → Option Item → Type 0
SaysFirst rows [] x = x ≡ None
SaysFirst rows (k ∷ keys) None = ⊥
SaysFirst rows (k ∷ keys) (Some x) = SaysAddress rows k x

-- the address of the least key that the rows name
pub record SaysLeast (rows : List Row) (x : Option Item) : Type 0 where
  pub keys : List Key
  pub said : SaysKeys rows keys
  pub first : SaysFirst rows keys x

-- ---- as a store writes them

-- the row's id names the key of some address
abbrev pub NamesAddress : Row → Type 0
NamesAddress r = NamesKey kind.Lpi r 0

-- each row says an address, and one of them names the key
pub record ShowsAddress (rows : List Row) (k : Key) : Type 0 where
  pub each : Each (ShowsItem kind.Lpi) rows
  pub row : Row
  pub there : Has rows row
  pub named : Names row k

-- each row says an address, and one of them names the first key, where there is a key
abbrev pub ShowsFirst : List Row → List Key → Type 0
ShowsFirst rows [] = ⊤
ShowsFirst rows (k ∷ keys) = ShowsAddress rows k
