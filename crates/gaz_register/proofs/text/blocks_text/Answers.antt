use Rattle.std.proofs.Common.{◌≡◌, ◌+◌, ◌<◌, ◌∙◌, get_or, length, arith, refl}
use Rattle.gaz_register.proofs.Rowwise.{blocks_text-more, get_or-behind}
use Rattle.gaz_register.proofs.text.blocks_text.Goals as goal

pub loop-block-preserved : goal.loop-block-preserved
loop-block-preserved c =
    let cases = c.in-Some.ensures.cases in
    let blocks = c.args.blocks.now in
    let i = c.loop-block.block-index in
    let x = c.block-item.result in
    let bound : i + 1 < length blocks = omega (arith, cases.1) in
    let at : x ≡ get_or blocks (i + 1) x = c.block-item.is ∙ get_or-behind blocks c.in-Some.first.now c.in-Some.rest.now i x (cases.0) in
    let more = blocks_text-more blocks (i + 1) x (omega arith) bound in
    let bytes = c.in_ok-write.ensures.bytes in
    rw (bytes, c.loop-block.invariant, more, ← at) refl
