use Rattle.std.proofs.Common.{rules, ◌&&◌, ◌∙◌, ap, List}
use Rattle.std.specs.Prelude.{is_some}
use Rattle.std.proofs.lemmas.Fn.{filter_same}
use Rattle.std.proofs.lemmas.List.Filters.{dedup_is}
use Rattle.std.specs.Map.{lookup}
use Rattle.std.specs.Ordering.{eq_by_cmp}
use Rattle.gaz_records.specs.Keys.{key_cmp}
use Rattle.gaz_records.specs.declared.key.Key.{Key}
use Rattle.gaz_standing.proofs.KeyOrders.{kept_ascend, kept_same}
use Rattle.gaz_standing.specs.Indexes.{has_key}
use Rattle.gaz_standing.proofs.key_order.KeyOrder.keep.Goals as goal

pub invariant_of-self : goal.invariant_of-self
invariant_of-self c =
    let es = c.args.histories.now.entries in
    kept_ascend c.self.inside.keys.items c.sort_unstable.new.self.items c.dedup.new.self.items c.sort_unstable.ensures.permutation (dedup_is _ _ _ c.dedup.ensures.filtered) es c.retain.new.self.items
    (filter_same _ (λ k. is_some (lookup (eq_by_cmp key_cmp k) es)) _ (λ x b q called. search rules) c.dedup.new.self.items c.retain.new.self.items c.retain.ensures.filtered) c.sort_unstable.ensures.sorted

pub returns : goal.returns
returns c k =
    let es = c.args.histories.now.entries in
    kept_same c.self.inside.keys.items c.sort_unstable.new.self.items c.dedup.new.self.items c.sort_unstable.ensures.permutation (dedup_is _ _ _ c.dedup.ensures.filtered) es c.retain.new.self.items
    (filter_same _ (λ k. is_some (lookup (eq_by_cmp key_cmp k) es)) _ (λ x b q called. search rules) c.dedup.new.self.items c.retain.new.self.items c.retain.ensures.filtered) k
    ∙ ap (λ (l : List Key). is_some (lookup (eq_by_cmp key_cmp k) es) && has_key l k) c.self.view_is
