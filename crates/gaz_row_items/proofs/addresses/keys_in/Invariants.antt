use Rattle.std.proofs.Common.{◌≡◌, map, take, Some}
use Rattle.sqlite.specs.Order.{column}
use Rattle.gaz_records.specs.declared.item.Kind.TheVariants as kind
use Rattle.gaz_cells.specs.Ids.{key_named}
use Rattle.gaz_row_items.specs.Versions.{text_in}
use Rattle.gaz_row_items.proofs.addresses.keys_in.Given as goal

abbrev pub invariant-loop-row : goal.invariant-loop-row
invariant-loop-row l = map (λ r. key_named kind.Lpi (text_in (column r 0))) (take l.row-index l.rows) ≡ map Some l.keys.items
