use Rattle.std.proofs.Common.{arith, get_or, drop, ◌-◌, ◌+◌, ◌*◌}
use Rattle.gaz_ids.proofs.Numerals.{digit_at, number_step, grows}
use Rattle.gaz_exchange.proofs.framing.limited_value.Goals as goal

pub returns-then-value-gt-MOST_BYTES-clause-exceeds :
    goal.returns-then-value-gt-MOST_BYTES-clause-exceeds
returns-then-value-gt-MOST_BYTES-clause-exceeds c =
    let s = c.args.digits.now in
    let i = c.loop-byte.byte-index in
    let v = c.loop-byte.value in
    let d = digit_at i s c.loop-byte-test.true c.loop-byte.invariant.1 in
    let step = number_step v i s c.loop-byte-test.true d c.loop-byte.invariant.0 in
    let more = grows (v * 10 + (get_or s i 0 - 48)) (drop (i + 1) s) in
    omega (arith, step, more, c.from.ensures, c.if-value-gt-MOST_BYTES.true)
