use Rattle.std.proofs.Common.{◌≡◌, ◌+◌, ◌-◌, ◌≤◌, ◌++◌, ℕ, List, length}
use Rattle.std.specs.Io.KnownBytes.{Consumes, Keeps}
use Rattle.gaz_http.proofs.body.read_body.Given as goal

abbrev pub invariant-pieces : goal.invariant-pieces
invariant-pieces g l = Keeps (g.W.Sink.contents l.fn.w) (g.W.Sink.contents l.w)
    × (bs : List ℕ) × Consumes (g.R.Source.remaining l.fn.r) (g.R.Source.remaining l.r) bs × (l.fn.inlet ++ bs ≡ l.out.items ++ l.inlet) × (length l.out.items ≤ l.size)
    × (g.R.Source.reads l.r ≤ g.R.Source.reads l.fn.r + length l.out.items)

abbrev pub decreases-pieces : goal.decreases-pieces
decreases-pieces g l = l.size - length l.out.items
