use Rattle.std.proofs.Common.{◌≡◌, ◌<◌, ◌+◌, ◌*◌, drop, arith, refl}
use Rattle.std.proofs.lemmas.List.{get_or-drop}
use Rattle.gaz_fields.specs.Labels.{word}
use Rattle.gaz_fields.proofs.LabelOrder.{below_seven, rest_of_bytes, word_below, word_more}
use Rattle.gaz_fields.proofs.label.seven_at.Goals as goal

pub loop-offset-init : goal.loop-offset-init
unfolding word
loop-offset-init c = (refl, omega arith)

pub overflow_mul-word : goal.overflow_mul-word
overflow_mul-word c = omega (arith, below_seven c.loop-offset.offset c.loop-offset.word c.loop-offset-test.true c.loop-offset.invariant.1)

pub overflow_add-word : goal.overflow_add-word
overflow_add-word c =
    let byte : c.from.result < 256 = rw (c.from.ensures, ← get_or-drop c.args.start c.args.bytes.now c.loop-offset.offset 0) (rest_of_bytes c.args.start c.args.bytes.now c.requires.bytes c.loop-offset.offset) in
    omega (arith, below_seven c.loop-offset.offset c.loop-offset.word c.loop-offset-test.true c.loop-offset.invariant.1, byte)

pub loop-offset-preserved : goal.loop-offset-preserved
loop-offset-preserved c =
    let bytes = drop c.args.start c.args.bytes.now in
    let more : c.loop-offset.word * 256 + c.from.result ≡ word (c.loop-offset.offset + 1) bytes =
    rw (c.from.ensures, ← get_or-drop c.args.start c.args.bytes.now c.loop-offset.offset 0, c.loop-offset.invariant.0, word_more c.loop-offset.offset bytes) refl in
    (more, rw more (word_below (c.loop-offset.offset + 1) bytes (rest_of_bytes c.args.start c.args.bytes.now c.requires.bytes)))
