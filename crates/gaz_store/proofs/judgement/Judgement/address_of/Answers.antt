use Rattle.std.proofs.Common.{◌∙◌, ap}
use Rattle.std.specs.FinMap as map
use Rattle.std.specs.Option.{option_and_then}
use Rattle.gaz_views.specs.Words.{first_of}
use Rattle.gaz_calls.proofs.Answered.{asked_more}
use Rattle.gaz_store.proofs.judgement.Judgement.address_of.Goals as goal

pub returns : goal.returns
returns g c =
    asked_more _ _ _ _ _ c.in_ok-keys.keys _ _ _ c.approved_of.ensures c.first_item.ensures c.in_ok-keys.was (λ db kept keys i is w makes.
    is w makes ∙ ap (λ l. option_and_then (map.get w.items) (first_of l)) (c.deref.ensures.value ∙ keys w makes))
