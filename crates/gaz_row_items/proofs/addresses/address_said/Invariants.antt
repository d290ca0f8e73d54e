use Rattle.std.proofs.Common.{take}
use Rattle.std.specs.List.{AllByRecursion}
use Rattle.gaz_row_items.specs.Addresses.{Names}
use Rattle.gaz_row_items.proofs.addresses.address_said.Given as goal

abbrev pub invariant-loop-row : goal.invariant-loop-row
invariant-loop-row l = AllByRecursion (λ r. ¬ Names r l.key) (take l.row-index l.rows)
