use Rattle.std.proofs.Common.{rules, ◌∙◌, ap, sym}
use Rattle.std.specs.Prelude.{Option, Some, filter}
use Rattle.std.proofs.lemmas.List.Sorted.{IsPartitionPoint-from_clause}
use Rattle.gaz_records.specs.declared.key.Key.{Key}
use Rattle.gaz_views.specs.Words.{comes_after}
use Rattle.gaz_standing.proofs.Ranges.{behind, from_first, passed, passed_first}
use Rattle.gaz_standing.proofs.words.count_until.Goals as goal

pub returns-in-Some-clause-start : goal.returns-in-Some-clause-start
returns-in-Some-clause-start c =
    let ks = c.args.order.now in
    let a = c.of-after.result in
    behind (comes_after (Some a)) ks c.partition_point.result (IsPartitionPoint-from_clause (passed a) ks c.partition_point.result c.partition_point.ensures.partitioned (passed_first a ks c.requires) (λ x r q k. search rules))
    ∙ ap (λ (o : Option Key). filter (comes_after o) ks) (ap Some c.of-after.ensures ∙ sym c.in-Some.is)

pub returns-in-None-clause-start : goal.returns-in-None-clause-start
returns-in-None-clause-start c =
    let ks = c.args.order.now in
    from_first ks ∙ ap (λ (o : Option Key). filter (comes_after o) ks) (sym c.in-None.is)
