use Rattle.std.proofs.Common.{◌∙◌, ap, sym, unwrap_or, []}
use Rattle.gaz_histories.specs.Histories.{was_used_at}
use Rattle.gaz_standing.specs.KeyHistories.{ItemVersions}
use Rattle.gaz_standing.proofs.Stored.{versions_stored}
use Rattle.gaz_standing.proofs.histories.Histories.was_used.Goals as goal

pub returns-in-Some : goal.returns-in-Some
returns-in-Some c =
    rw (← c.of.ensures) (c.was_used.ensures ∙ ap (λ (vs : ItemVersions). was_used_at vs c.args.volume) (ap (λ o. unwrap_or o []) c.in-Some.ensures.value ∙ sym (versions_stored c.args.self.now c.self.inside.by_key.entries c.of.result c.self.view_is)))

pub returns-in-None : goal.returns-in-None
returns-in-None c =
    rw (← c.of.ensures) (ap (λ (vs : ItemVersions). was_used_at vs c.args.volume) (ap (λ o. unwrap_or o []) c.in-None.ensures.value ∙ sym (versions_stored c.args.self.now c.self.inside.by_key.entries c.of.result c.self.view_is)))
