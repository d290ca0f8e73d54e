use Rattle.std.proofs.Common.{rules, leb}
use Rattle.std.proofs.lemmas.List.Sorted.{IsPartitionPoint-from_clause, IsPartitionedBy-leb}
use Rattle.gaz_histories.specs.Kept.{version_in}
use Rattle.gaz_histories.proofs.Searches.{front, rises}
use Rattle.gaz_histories.proofs.versions.count_until.Goals as goal

pub returns-clause-until : goal.returns-clause-until
returns-clause-until g c =
    let volume = c.args.volume in
    let vs = c.args.versions.now in
    let parted = IsPartitionedBy-leb (λ v. v.since) vs volume (rises version_in (λ v. v.0) vs c.requires) in
    front version_in (λ v. leb v.0 volume) vs _ (IsPartitionPoint-from_clause (λ v. leb v.since volume) _ _ c.partition_point.ensures.partitioned parted (λ a r q k. search rules))
