-- What the cells of a found row say.
use Rattle.std.specs.Prelude.{◌≡◌, ℕ, true, List, Result, Ok, IfErr, OnErr, Some, is_some}
use Rattle.sqlite.specs.declared.types.Value.TheVariants.{Text}
use Rattle.sqlite.specs.Order.{Row, column}
use Rattle.sqlite_rules.specs.Lists.{Has}
use Rattle.gaz_fields.specs.declared.fields.FieldFault.{FieldFault}
use Rattle.gaz_records.specs.Items.{item_of_text}
use Rattle.gaz_records.specs.Keys.{key_of}
use Rattle.gaz_records.specs.declared.item.Item.{Item}
use Rattle.gaz_records.specs.declared.item.Kind.{Kind}
use Rattle.gaz_records.specs.declared.key.Key.{Key}
use Rattle.gaz_cells.specs.Ids.{key_named, kind_in}
use Rattle.gaz_row_items.specs.Versions.{IsText, text_in}
use Rattle.gaz_row_items.specs.declared.fault.RowFault.{RowFault}
use Rattle.gaz_row_items.specs.declared.fault.RowFault.TheVariants.{Memory}

-- ---- what is told of a row

-- where this is so of what is read, it is told
abbrev pub IsTold : {T E : Type 0} → Type 0 → Result T E → Type 0
IsTold so result = so → OnErr result ⊥

-- where this is so of what is read, it is told, unless memory is lacking
abbrev pub IsToldOrMemory : {T : Type 0} → Type 0 → Result T RowFault → Type 0
IsToldOrMemory so result = so → IfErr result (λ fault. fault ≡ Memory)

-- ---- what a row says

-- a text is the body of an item at a key
pub record IsBodyOf (k : Key) (text : List ℕ) (x : Item) : Type 0 where
  pub read : item_of_text (kind_in k) text ≡ Ok x
  pub own : key_of x ≡ k

-- a text is the body of some item at a key
abbrev pub HasBody : Key → List ℕ → Type 0
HasBody k text = (x : Item) × IsBodyOf k text x

-- an item was read, and it stands at a key
abbrev pub ReadsAt : Key → Result Item FieldFault → Type 0
ReadsAt k read = (x : Item) × (read ≡ Ok x) × (key_of x ≡ k)

-- the text in a column is the body of an item at a key
pub record IsItemAt (r : Row) (place : ℕ) (k : Key) (x : Item) : Type 0 where
  pub text : List ℕ
  pub there : column r place ≡ Text text
  pub body : IsBodyOf k text x

-- ---- as a store writes them

-- each of the rows is so
abbrev pub Each : (Row → Type 0) → List Row → Type 0
Each IsSo rows = (r : Row) → Has rows r → IsSo r

-- the text in a column names a key of a kind
pub record NamesKey (kd : Kind) (r : Row) (place : ℕ) : Type 0 where
  pub text : IsText (column r place)
  pub named : is_some (key_named kd (text_in (column r place))) ≡ true

-- the text in a column is the body of some item at a key
abbrev pub HasItemAt : Row → ℕ → Key → Type 0
HasItemAt r place k = (x : Item) × IsItemAt r place k x

-- a row of id and body says an item of a kind
pub record ShowsItem (kd : Kind) (r : Row) : Type 0 where
  pub key : Key
  pub text : IsText (column r 0)
  pub named : key_named kd (text_in (column r 0)) ≡ Some key
  pub item : HasItemAt r 1 key
