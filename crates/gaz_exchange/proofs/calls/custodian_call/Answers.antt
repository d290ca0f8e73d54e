use Rattle.std.proofs.Common.{◌≡◌, ◌∙◌, ap, refl}
use Rattle.gaz_exchange.specs.Targets.{code_in}
use Rattle.gaz_exchange.proofs.calls.custodian_call.Goals as goal

pub returns-in-Get : goal.returns-in-Get
returns-in-Get c = λ code took.
    let texts = rw took.parts at took.texts in
    let first = c.next_part.ensures _ code _ (c.iter.ensures.value ∙ took.parts) texts.1 in
    let is_code : c.code_of-code.result ≡ code_in code = c.code_of-code.ensures ∙ ap code_in first.0 in
    rw (c.in-Get.is, is_code) refl
