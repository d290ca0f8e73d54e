-- What an item says of a body that it writes back as.
use Rattle.std.proofs.Common.{◌≡◌, ◌∙◌, ℕ, List, Some, Ok, true, ap, sym}
use Rattle.gaz_records.specs.Items.{is_item, item_of_text, item_text, kind_of}
use Rattle.gaz_records.specs.declared.item.Item.{Item}
use Rattle.gaz_records.specs.declared.item.Kind.{Kind}
use Rattle.gaz_records.proofs.ItemsBack.{text-back}
use Rattle.gaz_cells.specs.Columns.{CellsValue}
use Rattle.gaz_cells.specs.Reading.{agreed, kind_numbered, read_cells, said_in}

-- the body says the item
pub body_says : (k : Kind) (t : List ℕ) (x : Item) → is_item x ≡ true → kind_of x ≡ k → item_text x ≡ t → item_of_text k t ≡ Ok x
body_says k t x known kind text = (λ i. item_of_text (sym kind i) (sym text i)) ∙ text-back x known

-- so what the cells say is what comes of comparing the others
pub cells_say : (c : CellsValue) (k : Kind) (x : Item) → is_item x ≡ true → kind_numbered c.kind ≡ Some k → kind_of x ≡ k → item_text x ≡ c.body → read_cells c ≡ agreed c (Ok x)
unfolding read_cells
cells_say c k x known numbered kind text = ap (said_in c) numbered ∙ ap (agreed c) (body_says k c.body x known kind text)
