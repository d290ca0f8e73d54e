use Rattle.std.proofs.Common.{◌∙◌, [], ap, sym, unwrap_or}
use Rattle.std.specs.Option.{option_and_then}
use Rattle.gaz_histories.specs.Histories.{standing_at}
use Rattle.gaz_views.specs.Words.{blpu_named}
use Rattle.gaz_standing.proofs.Stored.{versions_stored}
use Rattle.gaz_standing.specs.KeyHistories.{ItemVersions}
use Rattle.gaz_standing.proofs.histories.Histories.named.Goals as goal

pub returns-in-Some : goal.returns-in-Some
returns-in-Some c =
    c.named_in.ensures ∙ ap (λ (vs : ItemVersions). option_and_then blpu_named (standing_at vs c.args.volume)) (ap (λ o. unwrap_or o []) c.in-Some.ensures.value ∙ sym (versions_stored c.args.self.now c.self.inside.by_key.entries c.args.key.now c.self.view_is))

pub returns-in-None : goal.returns-in-None
returns-in-None c =
    ap (λ (vs : ItemVersions). option_and_then blpu_named (standing_at vs c.args.volume)) (ap (λ o. unwrap_or o []) c.in-None.ensures.value ∙ sym (versions_stored c.args.self.now c.self.inside.by_key.entries c.args.key.now c.self.view_is))
