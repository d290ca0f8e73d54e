-- The item that cells say.
use Rattle.std.specs.Prelude.{◌≡◌, ◌⊎◌, ℕ, ◌==◌, List, Option, Some, None, Result, Ok, Err}
use Rattle.std.specs.Prelude.{filter, if◌then◌else◌}
use Rattle.std.specs.List.{find}
use Rattle.std.specs.Str.{bytes_eq}
use Rattle.gaz_fields.specs.declared.fields.FieldFault.{FieldFault}
use Rattle.gaz_records.specs.Items.{item_of_text, item_text}
use Rattle.gaz_records.specs.Keys.{key_of}
use Rattle.gaz_records.specs.Kinds.{is_entry_kind, kinds, number_of}
use Rattle.gaz_records.specs.declared.item.Item.{Item}
use Rattle.gaz_records.specs.declared.item.Kind.{Kind}
use Rattle.gaz_cells.specs.Ids.{id_of}
use Rattle.gaz_cells.specs.Columns.{CellsValue, blpu_of, lang_in, live_of, street_of}
use Rattle.gaz_cells.specs.declared.fault.CellFault.{CellFault}
use Rattle.gaz_cells.specs.declared.fault.CellFault.TheVariants as fault

-- the kinds of what rows say, which is what stands in views
abbrev pub entry_kinds : List Kind
entry_kinds = filter is_entry_kind kinds

-- the one of them with this record identifier, or none
abbrev pub kind_numbered : ℕ → Option Kind
kind_numbered n = find (λ k. n == number_of k) entry_kinds

-- the first cell that isn't the item's own
abbrev pub disagreement : CellsValue → Item → Option CellFault
disagreement c x =
    if bytes_eq c.body (item_text x) then
    if bytes_eq c.id (id_of (key_of x)) then
    if c.links.blpu == blpu_of x then
    if c.links.street == street_of x then
    if c.links.lang == lang_in x then
    if c.links.live == live_of x then None
    else Some fault.Live else Some fault.Lang else Some fault.Street else Some fault.Blpu
    else Some fault.Id else Some fault.Body

abbrev pub unless : Item → Option CellFault → Result Item CellFault
unless x None = Ok x
unless x (Some f) = Err f

-- the item of the body, where the other cells are its own
abbrev pub agreed : CellsValue → Result Item FieldFault → Result Item CellFault
agreed c (Ok x) = unless x (disagreement c x)
agreed c (Err f) = Err fault.Body

abbrev pub said_in : CellsValue → Option Kind → Result Item CellFault
said_in c None = Err fault.Kind
said_in c (Some k) = agreed c (item_of_text k c.body)

-- the item that cells say, or the first cell that disagrees
unfoldable pub read_cells : CellsValue → Result Item CellFault
read_cells c = said_in c (kind_numbered c.kind)

-- the answer, or want of memory in its place
abbrev pub OrMemory : Result Item CellFault → Result Item CellFault → Type 0
OrMemory result answer = (result ≡ answer) ⊎ (result ≡ Err fault.Memory)
