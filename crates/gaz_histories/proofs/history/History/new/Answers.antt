use Rattle.std.specs.List.Sorted.{IsStrictlySortedBy}
use Rattle.gaz_histories.proofs.history.History.new.Goals as goal

pub invariant_of-result : goal.invariant_of-result
unfolding IsStrictlySortedBy
invariant_of-result g c = tt
