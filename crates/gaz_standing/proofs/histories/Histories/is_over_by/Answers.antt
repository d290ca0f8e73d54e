use Rattle.std.proofs.Common.{◌≡◌, ◌∙◌, ap, refl, sym, unwrap_or, []}
use Rattle.gaz_histories.proofs.Lives.{same_over}
use Rattle.gaz_standing.specs.KeyHistories.{versions_at}
use Rattle.gaz_standing.proofs.Stored.{versions_stored}
use Rattle.gaz_standing.proofs.histories.Histories.is_over_by.Goals as goal

pub returns-in-Some : goal.returns-in-Some
returns-in-Some c =
    let is = ap (λ o. unwrap_or o []) c.in-Some.ensures.value ∙ sym (versions_stored c.args.self.now c.self.inside.by_key.entries c.of.result c.self.view_is) in
    rw (← c.of.ensures) ((λ yes. same_over _ _ c.args.volume is (c.is_over_by.ensures.0 yes)), (λ over. c.is_over_by.ensures.1 (same_over _ _ c.args.volume (sym is) over)))

pub returns-in-None : goal.returns-in-None
returns-in-None c =
    let is : [] ≡ versions_at c.args.self.now c.of.result = ap (λ o. unwrap_or o []) c.in-None.ensures.value ∙ sym (versions_stored c.args.self.now c.self.inside.by_key.entries c.of.result c.self.view_is) in
    rw (← c.of.ensures) ((λ yes. same_over _ _ c.args.volume is (λ t le. refl)), (λ over. refl))
