use Rattle.std.proofs.Common.{◌≡◌, ◌++◌, ◌∷◌, [], subst, take}
use Rattle.gaz_histories.specs.Histories.{before}
use Rattle.gaz_histories.specs.Kept.{versions_of}
use Rattle.gaz_histories.proofs.Vectors.{two_in}
use Rattle.gaz_histories.proofs.versions.put_two.Goals as goal

pub returns-clause-ok : goal.returns-clause-ok
returns-clause-ok g c =
    let vs = c.args.versions.now.items in
    let count = c.count_before-count.result in
    let same : c.deref.result.now ≡ vs = cc in
    let first = subst (λ ws. before (versions_of ws) c.args.first.since ≡ take count (versions_of ws)) same c.count_before-count.ensures.before in
    let all : c.push_reserved-2.new.self.items ≡ (take count vs ++ c.args.first ∷ []) ++ c.args.second ∷ [] = cc in
    two_in vs c.push_reserved-2.new.self.items count c.args.first.since c.args.first c.args.second first all
