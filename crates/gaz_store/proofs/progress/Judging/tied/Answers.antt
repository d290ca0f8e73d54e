use Rattle.std.proofs.Common.{◌≡◌, rules, subst, sym}
use Rattle.gaz_views.specs.Words.{tied}
use Rattle.gaz_calls.proofs.Answered.{asked_as}
use Rattle.gaz_store.specs.Store.{IsOfView}
use Rattle.gaz_store.proofs.progress.Judging.tied.Goals as goal

pub returns-in-Open-clause-asks : goal.returns-in-Open-clause-asks
returns-in-Open-clause-asks g c =
    let own : c.in-Open.judgement.code ≡ c.args.code = search rules in
    asked_as _ _ _ _ _ c.tied.ensures.asks (λ db kept b beside.
    subst (λ j. IsOfView db j c.args.code (λ v. b ≡ tied v c.args.uprn)) (sym c.in-Open.is) (λ same. beside, λ other. absurd (other own)))
