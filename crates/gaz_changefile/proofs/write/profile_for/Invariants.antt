use Rattle.std.proofs.Common.{◌≡◌, false, take}
use Rattle.std.specs.Prelude.{not}
use Rattle.std.specs.List.{list_any}
use Rattle.gaz_records.specs.Items.{is_entry}
use Rattle.gaz_changefile.proofs.write.profile_for.Given as goal

abbrev pub invariant-loop-change : goal.invariant-loop-change
invariant-loop-change l = list_any (λ x. not (is_entry x.item)) (take l.change-index l.changes) ≡ false
