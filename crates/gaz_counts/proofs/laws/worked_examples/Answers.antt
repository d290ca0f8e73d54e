use Rattle.gaz_counts.proofs.WorkedNoting.{noting_holds}
use Rattle.std.proofs.Common.{refl}
use Rattle.gaz_counts.proofs.laws.worked_examples.Goals as goal

pub returns : goal.returns
returns c = record {
  comes = record { reached = refl; held = refl };
  comes_uncounted = record { reached = refl; held = tt };
  comes_forgotten = record { reached = refl; held = tt };
  comes_unheard = λ h. let e = h.held in absurd (cc);
  comes_guessed = λ h. let e = h.held in absurd (cc);
  comes_judged = λ h. let e = h.reached in absurd (cc);
  judged = record { reached = refl; held = refl };
  judged_forgotten = record { reached = refl; held = tt };
  judged_unheard = λ h. let e = h.reached in absurd (cc);
  judged_waits = λ h. let e = h.held in absurd (cc);
  noting = noting_holds;
}
