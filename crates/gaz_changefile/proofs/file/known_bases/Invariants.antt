use Rattle.std.proofs.Common.{ℕ, ◌<◌, get_or}
use Rattle.gaz_changefile.specs.Files.{IsBasis}
use Rattle.gaz_changefile.specs.declared.change.Basis.{Basis}
use Rattle.gaz_changefile.proofs.file.known_bases.Given as goal

abbrev pub invariant-loop-basis : goal.invariant-loop-basis
invariant-loop-basis l = (k : ℕ) (d : Basis) → k < l.basis-index → IsBasis (get_or l.bases k d)
