use Rattle.std.proofs.Common.{◌≡◌, ◌+◌, drop}
use Rattle.gaz_fields.specs.Labels.{before_zero}
use Rattle.gaz_fields.proofs.label.count_before_zero.Given as goal

abbrev pub invariant-loop-index : goal.invariant-loop-index
invariant-loop-index l = l.index + before_zero (drop l.index l.bytes) ≡ before_zero l.bytes
