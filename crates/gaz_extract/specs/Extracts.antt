-- The whole view of a custodian after a volume, as a file of insertions.
use Rattle.std.specs.Prelude.{ℕ, ◌+◌, nat_le, List, [], ◌∷◌, ◌++◌, length, map, codes, decimal}
use Rattle.std.specs.Prelude.{Option, Some, None, if◌then◌else◌}
use Rattle.gaz_records.specs.Items.{item_texts, kind_of}
use Rattle.gaz_records.specs.Kinds.{identifier}
use Rattle.gaz_records.specs.declared.item.Item.{Item}
use Rattle.gaz_rows.specs.Rows.{Fields, lines_of}
use Rattle.gaz_keeper.specs.Board.{Board, reached, view_after}
use Rattle.gaz_views.specs.View.{View}
use Rattle.gaz_views.specs.Words.{entries}

-- the record that inserts an item, at its place in the order
abbrev pub record_of : ℕ → Item → Fields
record_of order i = identifier (kind_of i) ∷ codes "I" ∷ decimal order ∷ item_texts i

-- the records of items, with orders that rise by one from this number
abbrev pub records_from : ℕ → List Item → List Fields
records_from order [] = []
records_from order (i ∷ is) = record_of order i ∷ records_from (order + 1) is

-- the first record, of a custodian's code and a volume
abbrev pub header : ℕ → ℕ → Fields
header c volume = codes "10" ∷ codes "E" ∷ decimal c ∷ decimal volume ∷ []

-- the last record, of the number of records between
abbrev pub trailer : ℕ → Fields
trailer count = codes "99" ∷ decimal count ∷ []

-- the items of a view, in the order of keys
abbrev pub items_of : View → List Item
items_of v = map (λ e. e.1) (entries v)

-- the header, a record for each item, and the trailer
abbrev pub extract_rows : ℕ → ℕ → List Item → List Fields
extract_rows c volume items =
    header c volume ∷ (records_from 1 items ++ trailer (length items) ∷ [])

-- the text of a custodian's view after a volume; none where the volume isn't reached
abbrev pub extract : Board → ℕ → ℕ → Option (List ℕ)
extract board c volume =
    if nat_le volume (reached board c)
    then Some (lines_of (extract_rows c volume (items_of (view_after board c volume)))) else None
