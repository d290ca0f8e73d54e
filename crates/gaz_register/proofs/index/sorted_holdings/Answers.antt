use Rattle.std.proofs.Common.{ℕ, rules}
use Rattle.std.proofs.lemmas.List.Sorted.{IsNonDecreasingBy-from_sort_by_key}
use Rattle.gaz_register.specs.declared.index.Holding.{Holding}
use Rattle.gaz_register.proofs.index.sorted_holdings.Goals as goal

pub returns-clause-sorted : goal.returns-clause-sorted
returns-clause-sorted c =
    let first : Holding → ℕ = λ h. h.first in
    IsNonDecreasingBy-from_sort_by_key first c.sort_unstable_by_key.new.self.items c.sort_unstable_by_key.ensures.sorted (λ a r q k. search rules)
