use Rattle.std.proofs.Common.{◌≡◌, ◌-◌, ◌++◌, ℕ, List, length}
use Rattle.std.specs.Io.KnownBytes.{Consumes, Keeps}
use Rattle.gaz_http.specs.Heads.{inlet_size}
use Rattle.gaz_http.proofs.SparingFacts.{IsReadSoFar}
use Rattle.gaz_http.proofs.heads.next_head.Given as goal

abbrev pub invariant-reads : goal.invariant-reads
invariant-reads g l = record {
  kept : Keeps (g.W.Sink.contents l.fn.w) (g.W.Sink.contents l.w);
  came : (bs : List ℕ) × Consumes (g.R.Source.remaining l.fn.r) (g.R.Source.remaining l.r) bs × (l.inlet ≡ l.fn.inlet ++ bs);
  counted : IsReadSoFar (g.R.Source.reads l.fn.r) (g.R.Source.reads l.r) l.inlet;
}

abbrev pub decreases-reads : goal.decreases-reads
decreases-reads g l = inlet_size - length l.inlet
