use Rattle.std.proofs.Common.{rules, ◌≡◌, ◌<◌, ap, arith, length, subst, take}
use Rattle.gaz_histories.specs.Histories.{before}
use Rattle.gaz_histories.specs.Kept.{versions_of}
use Rattle.gaz_histories.proofs.Vectors.{put_in}
use Rattle.gaz_histories.proofs.versions.put_last.Goals as goal

pub count_before-count-requires : goal.count_before-count-requires
count_before-count-requires g c = search rules

pub returns-clause-ok : goal.returns-clause-ok
returns-clause-ok g c =
    let vs = c.args.versions.now.items in
    let first = subst (λ ws. before (versions_of ws) c.args.version.since ≡ take c.count_before-count.result (versions_of ws)) c.deref.ensures.value c.count_before-count.ensures.before in
    let long : c.len.result ≡ length vs = search rules in
    let within : c.count_before-count.result < length vs = omega (arith, ap length c.deref.ensures.value) in
    put_in vs c.truncate.new.self.items c.count_before-count.result c.args.version.since c.args.version within first c.truncate.ensures.items
