-- All but one of those so far.
use Rattle.std.proofs.Common.{◌≡◌, ◌++◌, eqb, filter, not, take}
use Rattle.gaz_waiters.proofs.waiters.push_others.Given as goal

abbrev pub invariant-loop-code : goal.invariant-loop-code
invariant-loop-code l = l.ahead.items ≡ l.fn.ahead.items ++ filter (λ c. not (eqb c l.but)) (take l.code-index l.codes)
