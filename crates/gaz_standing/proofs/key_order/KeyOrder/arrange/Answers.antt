use Rattle.std.proofs.Common.{◌∙◌, ap, List}
use Rattle.std.proofs.lemmas.List.Filters.{dedup_is}
use Rattle.gaz_records.specs.declared.key.Key.{Key}
use Rattle.gaz_standing.proofs.KeyOrders.{arranged_ascend, arranged_same}
use Rattle.gaz_standing.specs.Indexes.{has_key}
use Rattle.gaz_standing.proofs.key_order.KeyOrder.arrange.Goals as goal

pub invariant_of-self-2 : goal.invariant_of-self-2
invariant_of-self-2 c = arranged_ascend c.self.inside.keys.items c.sort.new.self.items c.dedup.new.self.items c.sort.ensures.permutation (dedup_is _ _ _ c.dedup.ensures.filtered) c.in_ok-sort.ensures.sorted

pub returns-clause-ok : goal.returns-clause-ok
returns-clause-ok c = invariant_of-self-2 c

pub returns-clause-same : goal.returns-clause-same
returns-clause-same c k =
    arranged_same c.self.inside.keys.items c.sort.new.self.items c.dedup.new.self.items c.sort.ensures.permutation (dedup_is _ _ _ c.dedup.ensures.filtered) k ∙ ap (λ (l : List Key). has_key l k) c.self.view_is
