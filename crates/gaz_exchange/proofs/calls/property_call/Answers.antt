use Rattle.std.proofs.Common.{◌≡◌, ◌∙◌, ap, refl}
use Rattle.gaz_ids.specs.Numbers.{read_uprn}
use Rattle.gaz_exchange.proofs.calls.property_call.Goals as goal

pub returns-in-Get : goal.returns-in-Get
returns-in-Get c = λ n took.
    let texts = rw took.parts at took.texts in
    let first = c.next_part.ensures _ n _ (c.iter.ensures.value ∙ took.parts) texts.1 in
    let is_uprn : c.uprn_of-uprn.result ≡ read_uprn n = c.uprn_of-uprn.ensures ∙ ap read_uprn first.0 in
    rw (c.in-Get.is, c.look_up.ensures, is_uprn) refl
