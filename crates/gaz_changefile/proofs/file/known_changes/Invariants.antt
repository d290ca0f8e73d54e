use Rattle.std.proofs.Common.{◌≡◌, true, ℕ, ◌<◌, get_or}
use Rattle.gaz_records.specs.Items.{is_item}
use Rattle.gaz_changefile.specs.declared.change.Change.{Change}
use Rattle.gaz_changefile.proofs.file.known_changes.Given as goal

abbrev pub invariant-loop-change : goal.invariant-loop-change
invariant-loop-change l = (k : ℕ) (d : Change) → k < l.change-index → is_item ((get_or l.changes k d).item) ≡ true
