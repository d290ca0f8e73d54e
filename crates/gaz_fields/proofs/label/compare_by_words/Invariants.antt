use Rattle.std.proofs.Common.{◌≡◌, ◌*◌, drop}
use Rattle.std.specs.Cmp.Lexicographic.{slice_cmp}
use Rattle.std.specs.Ordering.{nat_cmp}
use Rattle.gaz_fields.proofs.label.compare_by_words.Given as goal

abbrev pub invariant-loop-index : goal.invariant-loop-index
invariant-loop-index g l = slice_cmp nat_cmp (drop (4 * l.index) l.one) (drop (4 * l.index) l.other) ≡ slice_cmp nat_cmp l.one l.other
