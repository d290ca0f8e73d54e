-- The keys of the set and those that are left are all.
use Rattle.std.proofs.Common.{◌≡◌, ◌||◌, drop}
use Rattle.gaz_records.specs.declared.key.Key.{Key}
use Rattle.gaz_standing.specs.Indexes.{has_key}
use Rattle.gaz_overlay.proofs.merging.add_all.Given as goal

abbrev pub invariant-loop-key : goal.invariant-loop-key
invariant-loop-key l = (k : Key) → (has_key l.set.keys k || has_key (drop l.key-index l.keys) k) ≡ (has_key l.fn.set.keys k || has_key l.keys k)
