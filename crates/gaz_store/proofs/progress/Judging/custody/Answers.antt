use Rattle.std.proofs.Common.{◌≡◌, rules, subst, sym}
use Rattle.gaz_views.specs.View.{custody_at}
use Rattle.gaz_calls.proofs.Answered.{asked_as}
use Rattle.gaz_store.specs.Store.{IsOfView}
use Rattle.gaz_store.proofs.progress.Judging.custody.Goals as goal

pub returns-in-Open : goal.returns-in-Open
returns-in-Open g c =
    let own : c.in-Open.judgement.code ≡ c.args.code = search rules in
    asked_as _ _ _ _ _ c.custody.ensures (λ db kept x beside.
    subst (λ j. IsOfView db j c.args.code (λ v. x ≡ custody_at v c.args.uprn)) (sym c.in-Open.is) (λ same. beside, λ other. absurd (other own)))
