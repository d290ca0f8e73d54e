-- What is left to undo is where numbers were passed on, and the views so far stay.
use Rattle.std.proofs.Common.{◌≡◌, ◌≤◌, ℕ, vec_len}
use Rattle.gaz_ledger.specs.Custodies.{IsPassing, custody_after}
use Rattle.gaz_ledger.proofs.passage.undo_passing.Given as goal

abbrev pub invariant-loop-uprn : goal.invariant-loop-uprn
invariant-loop-uprn l = record {
  passing : IsPassing l.reached l.custodies l.passed.items;
  past : (volume : ℕ) → volume ≤ l.reached → custody_after l.custodies volume ≡ custody_after l.initial.custodies volume;
}

abbrev pub decreases-loop-uprn : goal.decreases-loop-uprn
decreases-loop-uprn l = vec_len l.passed
