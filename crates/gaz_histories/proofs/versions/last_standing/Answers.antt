use Rattle.std.proofs.Common.{◌∙◌, refl, sym, ◌≤◌, subst}
use Rattle.std.proofs.lemmas.List.{length-map}
use Rattle.gaz_histories.specs.Kept.{version_in, versions_of}
use Rattle.gaz_histories.proofs.Vectors.{found}
use Rattle.gaz_histories.proofs.versions.last_standing.Goals as goal

pub returns : goal.returns
returns g c =
    let vs = c.args.versions.now in
    let count = c.count_until-count.result in
    c.standing_of.ensures
    ∙ found vs (versions_of vs) count _ c.index-versions-count.result refl c.count_until-count.ensures.until c.if-count-eq0.false (subst (λ n. count ≤ n) (sym (length-map vs version_in)) c.count_until-count.ensures.bound) c.index-versions-count.is
