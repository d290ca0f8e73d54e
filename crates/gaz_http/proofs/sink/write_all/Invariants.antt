use Rattle.std.proofs.Common.{◌-◌, ◌≤◌, length, take}
use Rattle.std.specs.Io.KnownBytes.{Appends}
use Rattle.gaz_http.proofs.sink.write_all.Given as goal

abbrev pub invariant-writes : goal.invariant-writes
invariant-writes g l = Appends (g.W.Sink.contents l.fn.w) (g.W.Sink.contents l.w) (take l.at l.text) × (l.at ≤ length l.text)

abbrev pub decreases-writes : goal.decreases-writes
decreases-writes g l = length l.text - l.at
