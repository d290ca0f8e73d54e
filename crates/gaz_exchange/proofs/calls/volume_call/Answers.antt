use Rattle.std.proofs.Common.{◌≡◌, ◌∙◌, ap, refl}
use Rattle.gaz_exchange.specs.Targets.{code_in, volume_in}
use Rattle.gaz_exchange.proofs.calls.volume_call.Goals as goal

pub returns-in-Post : goal.returns-in-Post
returns-in-Post c = λ code volume took.
    let texts = rw took.parts at took.texts in
    let first = c.next_part.ensures _ code _ (c.iter-parts.ensures.value ∙ took.parts) texts.1 in
    let second = c.next_part-2.ensures _ volume _ first.1 texts.2.1 in
    let is_code : c.code_of-code.result ≡ code_in code = c.code_of-code.ensures ∙ ap code_in first.0 in
    let is_volume : c.volume_of-volume.result ≡ volume_in volume = c.volume_of-volume.ensures ∙ ap volume_in second.0 in
    rw (c.in-Post.is, is_code, is_volume) refl

pub returns-in-Get : goal.returns-in-Get
returns-in-Get c = λ code volume took.
    let texts = rw took.parts at took.texts in
    let first = c.next_part.ensures _ code _ (c.iter-parts.ensures.value ∙ took.parts) texts.1 in
    let second = c.next_part-2.ensures _ volume _ first.1 texts.2.1 in
    let is_code : c.code_of-code.result ≡ code_in code = c.code_of-code.ensures ∙ ap code_in first.0 in
    let is_volume : c.volume_of-volume.result ≡ volume_in volume = c.volume_of-volume.ensures ∙ ap volume_in second.0 in
    rw (c.in-Get.is, is_code, is_volume) refl
