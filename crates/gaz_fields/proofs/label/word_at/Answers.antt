use Rattle.std.proofs.Common.{◌≡◌, ◌<◌, ◌+◌, ◌*◌, drop, arith, get_or, refl, sym, ◌∙◌}
use Rattle.std.proofs.lemmas.List.{get_or-drop, get_or_past}
use Rattle.gaz_fields.specs.Labels.{word}
use Rattle.gaz_fields.proofs.LabelOrder.{rest_of_bytes, small_word, word_below, word_more}
use Rattle.gaz_fields.proofs.label.word_at.Given as given
use Rattle.gaz_fields.proofs.label.word_at.Goals as goal
use Rattle.gaz_fields.proofs.label.word_at.Goals.{then-offset-start, else-offset-start}

-- the byte at this offset, or 0
byte_is : (g : given.Over) (c : goal.After-from g) → c.if-offset-start.byte ≡ get_or (drop c.args.start c.args.bytes.now) c.loop-offset.offset 0
byte_is g c =
    let there = get_or-drop c.args.start c.args.bytes.now c.loop-offset.offset 0 in
    elim c.if-offset-start.branch [
      | then-offset-start w ↦ w.byte-is ∙ sym there
      | else-offset-start w ↦ w.byte-is ∙ sym (there ∙ get_or_past c.args.bytes.now (c.args.start + c.loop-offset.offset) 0 (omega (arith, c.told-bytes, w.if-offset-start.false)))
    ]

pub loop-offset-init : goal.loop-offset-init
unfolding word
loop-offset-init g c = (refl, omega arith)

pub overflow_mul-word : goal.overflow_mul-word
overflow_mul-word g c = omega (arith, small_word c.loop-offset.offset c.loop-offset.word c.loop-offset-test.true c.loop-offset.invariant.1)

pub overflow_add-word : goal.overflow_add-word
overflow_add-word g c =
    let byte : c.if-offset-start.byte < 256 = rw (byte_is g c) (rest_of_bytes c.args.start c.args.bytes.now c.requires.bytes c.loop-offset.offset) in
    omega (arith, small_word c.loop-offset.offset c.loop-offset.word c.loop-offset-test.true c.loop-offset.invariant.1, byte, c.from.ensures)

pub loop-offset-preserved : goal.loop-offset-preserved
loop-offset-preserved g c =
    let bytes = drop c.args.start c.args.bytes.now in
    let more : c.loop-offset.word * 256 + c.from.result ≡ word (c.loop-offset.offset + 1) bytes =
    rw (c.from.ensures, byte_is g c, c.loop-offset.invariant.0, word_more c.loop-offset.offset bytes) refl in
    (more, rw more (word_below (c.loop-offset.offset + 1) bytes (rest_of_bytes c.args.start c.args.bytes.now c.requires.bytes)))
