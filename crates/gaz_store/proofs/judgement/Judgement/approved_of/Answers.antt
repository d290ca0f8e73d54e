use Rattle.std.proofs.Common.{◌∙◌, ap}
use Rattle.gaz_overlay.specs.Questions.{both}
use Rattle.gaz_views.specs.Words.{approved_of}
use Rattle.gaz_calls.proofs.Answered.{answered_ok}
use Rattle.gaz_store.proofs.Turning.{approved_beside}
use Rattle.gaz_store.proofs.judgement.Judgement.approved_of.Goals as goal

pub returns-in-Ok : goal.returns-in-Ok
returns-in-Ok g c =
    answered_ok _ _ _ c.in_ok-last.last c.in-Ok.keys _ _ c.approved_of.ensures c.in_ok-last.was (λ db kept found w makes.
    c.in-Ok.ensures ∙ ap (λ l. both c.args.self.now.changes.view l (approved_of c.args.self.now.changes.view c.args.uprn)) (c.deref.ensures.value ∙ found)
    ∙ approved_beside db c.args.self.now w makes c.args.uprn)
