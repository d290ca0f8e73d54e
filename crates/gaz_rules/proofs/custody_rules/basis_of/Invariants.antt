-- What is left has the first basis line of all.
use Rattle.std.proofs.Common.{◌≡◌, ◌==◌, drop}
use Rattle.std.specs.List.{find}
use Rattle.gaz_rules.proofs.custody_rules.basis_of.Given as goal

abbrev pub invariant-loop-basis : goal.invariant-loop-basis
invariant-loop-basis l = find (λ b. b.custodian == l.from) (drop l.basis-index l.bases) ≡ find (λ b. b.custodian == l.from) l.bases
