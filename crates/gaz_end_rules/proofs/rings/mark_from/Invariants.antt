-- Those below are as they were, and those from there to here are set.
use Rattle.std.proofs.Common.{◌≡◌, ◌≤◌, ◌<◌, ℕ, true, Some}
use Rattle.std.specs.List.{slice_get}
use Rattle.gaz_end_rules.proofs.rings.mark_from.Given as goal

abbrev pub invariant-loop-i : goal.invariant-loop-i
invariant-loop-i l =
    record {
      before : (j : ℕ) → j < l.from → slice_get l.marks j ≡ slice_get l.fn.marks j;
      after : (j : ℕ) → l.from ≤ j → j < l.i → slice_get l.marks j ≡ Some true;
    }
