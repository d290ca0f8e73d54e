use Rattle.std.proofs.Common.{◌∙◌, ap, sym, unwrap_or, []}
use Rattle.gaz_histories.specs.Histories.{Versions, standing_at}
use Rattle.gaz_views.specs.declared.custody.Custody.{Custody}
use Rattle.gaz_ledger.proofs.Becoming.{passed_stored}
use Rattle.gaz_ledger.proofs.custodies.Custodies.custody.Goals as goal

pub returns-in-Some : goal.returns-in-Some
returns-in-Some c =
    c.standing_in.ensures ∙ ap (λ (vs : Versions Custody). standing_at vs c.args.volume) (ap (λ o. unwrap_or o []) c.in-Some.ensures.value ∙ sym (passed_stored c.args.self.now c.self.inside.by_uprn.entries c.args.uprn c.self.view_is))

pub returns-in-None : goal.returns-in-None
returns-in-None c =
    ap (λ (vs : Versions Custody). standing_at vs c.args.volume) (ap (λ o. unwrap_or o []) c.in-None.ensures.value ∙ sym (passed_stored c.args.self.now c.self.inside.by_uprn.entries c.args.uprn c.self.view_is))
