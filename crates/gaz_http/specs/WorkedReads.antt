-- Worked examples on how often a reader is read.
use Rattle.std.specs.Prelude.{⊤, codes}
use Rattle.gaz_http.specs.Sparing.{OneForEach, OneForEachUsed}

-- reads, of which there were two before
pub record WorkedReads : Type 0 where
  pub each : OneForEach 2 5 (codes "GET") ⊥
  pub one_more : OneForEach 2 6 (codes "GET") ⊤
  pub not_one_more : OneForEach 2 6 (codes "GET") ⊥ → ⊥
  pub not_two_more : OneForEach 2 7 (codes "GET") ⊤ → ⊥
  pub used : OneForEachUsed 2 4 (codes "GET") (codes "T")
  pub not_behind : OneForEachUsed 2 5 (codes "GET") (codes "T") → ⊥
