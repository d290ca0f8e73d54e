-- The items so far and those of the keys that are left are those of all.
use Rattle.std.proofs.Common.{◌≡◌, ◌≤◌, ◌++◌, drop, map, length}
use Rattle.std.specs.Prelude.{filter}
use Rattle.gaz_views.specs.Words.{is_of}
use Rattle.gaz_standing.specs.KeyHistories.{rows_at, with_versions}
use Rattle.gaz_standing.proofs.Passing.{Ascends}
use Rattle.gaz_standing.proofs.words.first_items.Given as goal

abbrev pub invariant-loop-key : goal.invariant-loop-key
invariant-loop-key l = record {
  told : l.found.items ++ map (λ e. e.1) (filter (λ e. is_of l.kind e.0) (rows_at (with_versions (drop l.key-index l.order) l.histories.entries) l.volume)) ≡ map (λ e. e.1) (filter (λ e. is_of l.kind e.0) (rows_at (with_versions l.order l.histories.entries) l.volume));
  few : length l.found.items ≤ l.most;
  ascend : Ascends (drop l.key-index l.order);
}
