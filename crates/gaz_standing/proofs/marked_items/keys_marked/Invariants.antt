-- The keys so far and those of what is left are those of all.
use Rattle.std.proofs.Common.{◌≡◌, ◌++◌}
use Rattle.std.specs.Prelude.{filter}
use Rattle.gaz_views.specs.Words.{entries}
use Rattle.gaz_standing.specs.KeyHistories.{view_at}
use Rattle.gaz_standing.specs.Indexes.{listed, marked_at}
use Rattle.gaz_standing.proofs.marked_items.keys_marked.Given as goal

abbrev pub invariant-loop-key : goal.invariant-loop-key
invariant-loop-key l = l.found.items ++ filter (marked_at (entries (view_at l.histories l.volume)) l.mark) l.key-iterator ≡ filter (marked_at (entries (view_at l.histories l.volume)) l.mark) (listed l.keys)
