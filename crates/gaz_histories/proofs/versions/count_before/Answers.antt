use Rattle.std.proofs.Common.{rules, ltb}
use Rattle.std.proofs.lemmas.List.Sorted.{IsPartitionPoint-from_clause, IsPartitionedBy-ltb}
use Rattle.gaz_histories.specs.Kept.{version_in}
use Rattle.gaz_histories.proofs.Searches.{front, rises}
use Rattle.gaz_histories.proofs.versions.count_before.Goals as goal

pub returns-clause-before : goal.returns-clause-before
returns-clause-before g c =
    let volume = c.args.volume in
    let vs = c.args.versions.now in
    let parted = IsPartitionedBy-ltb (λ v. v.since) vs volume (rises version_in (λ v. v.0) vs c.requires) in
    front version_in (λ v. ltb v.0 volume) vs _ (IsPartitionPoint-from_clause (λ v. ltb v.since volume) _ _ c.partition_point.ensures.partitioned parted (λ a r q k. search rules))
