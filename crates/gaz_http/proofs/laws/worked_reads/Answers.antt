use Rattle.std.proofs.Common.{arith, inl, inr}
use Rattle.gaz_http.proofs.laws.worked_reads.Goals as goal

pub returns : goal.returns
returns c = record {
  each = inl (omega arith);
  one_more = inr (omega arith, tt);
  not_one_more = λ one. elim one [ inl e ↦ omega (arith, e) | inr e ↦ absurd e.1 ];
  not_two_more = λ two. elim two [ inl e ↦ omega (arith, e) | inr e ↦ omega (arith, e.0) ];
  used = omega arith;
  not_behind = λ e. omega (arith, e);
}
