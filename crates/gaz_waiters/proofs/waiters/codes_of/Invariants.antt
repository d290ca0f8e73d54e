-- The codes of the custodians so far.
use Rattle.std.proofs.Common.{◌≡◌, map, take}
use Rattle.gaz_waiters.proofs.waiters.codes_of.Given as goal

abbrev pub invariant-loop-custodian : goal.invariant-loop-custodian
invariant-loop-custodian l = l.codes.items ≡ map (λ k. k.code) (take l.custodian-index l.custodians)
