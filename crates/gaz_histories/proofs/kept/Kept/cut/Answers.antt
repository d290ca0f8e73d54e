use Rattle.std.proofs.Common.{◌≡◌, ◌∙◌, ap, subst, sym, take}
use Rattle.gaz_histories.specs.Histories.{before}
use Rattle.gaz_histories.specs.Kept.{versions_in, versions_of}
use Rattle.gaz_histories.specs.declared.kept.Kept.{Kept}
use Rattle.gaz_histories.proofs.Vectors.{cut_to}
use Rattle.gaz_histories.proofs.kept.Kept.cut.Goals as goal

pub returns-in-Several : goal.returns-in-Several
returns-in-Several g c =
    let vs = c.in-Several.versions.value.items in
    let count = c.count_before-count.result in
    let same : c.deref-in-Several.result.now ≡ vs = cc in
    let first = subst (λ ws. before (versions_of ws) c.args.volume ≡ take count (versions_of ws)) same c.count_before-count.ensures.before in
    let shorter : c.truncate.new.self.items ≡ take count vs = cc c.truncate.ensures.items in
    cut_to vs c.truncate.new.self.items count c.args.volume first shorter ∙ ap (λ (k : Kept _). before (versions_in k) c.args.volume) (sym c.in-Several.is)
