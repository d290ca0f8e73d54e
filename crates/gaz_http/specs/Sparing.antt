-- How often a reader is read.
use Rattle.std.specs.Prelude.{ℕ, ◌+◌, ◌≤◌, ◌⊎◌, List, length}

-- Below, before and after count the reads.

-- at most one read for each of the bytes that were used; rest are those that weren't
abbrev pub OneForEachUsed : ℕ → ℕ → List ℕ → List ℕ → Type 0
OneForEachUsed before after bytes rest = after + length rest ≤ before + length bytes

-- at most one read for each of the bytes, or one more, which found none
abbrev pub OneForEach : ℕ → ℕ → List ℕ → Type 0 → Type 0
OneForEach before after bytes FoundNone =
    (after ≤ before + length bytes) ⊎ ((after ≤ before + length bytes + 1) × FoundNone)
