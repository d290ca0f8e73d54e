use Rattle.std.proofs.Common.{◌∙◌, ◌||◌, ap, sym}
use Rattle.gaz_kept.specs.LastViews.{last_in}
use Rattle.gaz_views.specs.View.{was_used}
use Rattle.gaz_calls.proofs.Answered.{asked_as}
use Rattle.gaz_calls.proofs.Composing.{asked_nothing}
use Rattle.gaz_calls.proofs.Passed.{known_none}
use Rattle.gaz_store.proofs.Turning.{used_beside}
use Rattle.gaz_store.proofs.judgement.Judgement.was_used.Goals as goal

pub returns-then-was_used : goal.returns-then-was_used
returns-then-was_used g c =
    asked_nothing _ _ _ (λ db kept w makes.
    let j = c.args.self.now in
    ap (λ b. b || was_used (last_in db j.code) c.args.key.now) (sym c.if-was_used.true ∙ c.was_used.ensures) ∙ used_beside db j w makes c.args.key.now)

pub returns : goal.returns
returns g c =
    asked_as _ _ _ _ _ c.used.ensures (λ db kept b is w makes.
    let j = c.args.self.now in
    is (λ none. known_none db _ _ makes.known (sym c.knows_none.ensures ∙ none))
    ∙ ap (λ b. b || was_used (last_in db j.code) c.args.key.now) (sym c.if-was_used.false ∙ c.was_used.ensures) ∙ used_beside db j w makes c.args.key.now)
