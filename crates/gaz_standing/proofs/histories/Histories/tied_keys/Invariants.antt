-- Each key is among those that are left, or under the BLPUs that its items name.
use Rattle.std.proofs.Common.{drop}
use Rattle.gaz_standing.proofs.TieFacts.{Left}
use Rattle.gaz_standing.proofs.histories.Histories.tied_keys.Given as goal

abbrev pub invariant-loop-key : goal.invariant-loop-key
invariant-loop-key l = Left l.keys l.self l.volume l.key-items (drop l.key-index l.key-items)
