use Rattle.std.proofs.Common.{◌≡◌}
use Rattle.std.specs.List.{list_any}
use Rattle.gaz_standing.specs.Ties.{names_at, keys_in}
use Rattle.gaz_standing.proofs.histories.Histories.any_names.Given as goal

abbrev pub invariant-loop-key : goal.invariant-loop-key
invariant-loop-key l = list_any (names_at l.self l.volume l.uprn) l.key-iterator ≡ list_any (names_at l.self l.volume l.uprn) (keys_in l.keys)
