use Rattle.std.proofs.Common.{◌≡◌, ◌≤◌, ℕ, List, Some, length}
use Rattle.std.specs.Str.{IsUtf8}
use Rattle.gaz_rows.specs.Rows.{Fields, rows_of}
use Rattle.gaz_changefile.proofs.Runs.{Kept}
use Rattle.gaz_changefile.proofs.read.read_rows.Given as goal

abbrev pub invariant-loop-place : goal.invariant-loop-place
invariant-loop-place l =
    (length l.draft.changes.items ≤ 5000)
    × ((bytes : List ℕ) → IsUtf8 bytes → l.fn.rows ≡ Some (rows_of bytes)
    → (before : List Fields) × (left : List Fields) × Kept l.fn.code l.fn.volume (rows_of bytes) before left l.place l.draft × (l.rows ≡ Some left))
