use Rattle.std.proofs.Common.{arith, get_or, drop, ◌-◌, ◌+◌, ◌*◌}
use Rattle.gaz_ids.proofs.Numerals.{digit_at, number_step, grows, short_value}
use Rattle.gaz_ids.proofs.digits.value_of.Goals as goal

pub overflow_mul-value : goal.overflow_mul-value
overflow_mul-value c =
    let s = c.args.text.now in
    let i = c.loop-byte.byte-index in
    let v = c.loop-byte.value in
    let d = digit_at i s c.loop-byte-test.true c.loop-byte.invariant.1 in
    let step = number_step v i s c.loop-byte-test.true d c.loop-byte.invariant.0 in
    let more = grows (v * 10 + (get_or s i 0 - 48)) (drop (i + 1) s) in
    omega (arith, step, more, short_value s c.requires.digits c.requires.short)

pub overflow_add-value : goal.overflow_add-value
overflow_add-value c =
    let s = c.args.text.now in
    let i = c.loop-byte.byte-index in
    let v = c.loop-byte.value in
    let d = digit_at i s c.loop-byte-test.true c.loop-byte.invariant.1 in
    let step = number_step v i s c.loop-byte-test.true d c.loop-byte.invariant.0 in
    let more = grows (v * 10 + (get_or s i 0 - 48)) (drop (i + 1) s) in
    omega (arith, step, more, c.from.ensures, short_value s c.requires.digits c.requires.short)
