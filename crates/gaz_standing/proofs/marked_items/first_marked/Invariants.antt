use Rattle.std.proofs.Common.{◌≡◌}
use Rattle.std.specs.List.{filter_map}
use Rattle.gaz_views.specs.Words.{entries, first_of}
use Rattle.gaz_standing.specs.KeyHistories.{view_at}
use Rattle.gaz_standing.specs.Indexes.{listed, marked_item}
use Rattle.gaz_standing.proofs.marked_items.first_marked.Given as goal

abbrev pub invariant-loop-key : goal.invariant-loop-key
invariant-loop-key l = first_of (filter_map (marked_item (entries (view_at l.histories l.volume)) l.mark) l.key-iterator) ≡ first_of (filter_map (marked_item (entries (view_at l.histories l.volume)) l.mark) (listed l.keys))
