use Rattle.std.proofs.Common.{◌≡◌, ◌≤◌, drop, true}
use Rattle.std.specs.Str.{all_ascii_digits}
use Rattle.std.specs.Str.Parse.{digits_value, digits_value_after}
use Rattle.gaz_exchange.proofs.framing.limited_value.Given as goal

abbrev pub invariant-loop-byte : goal.invariant-loop-byte
invariant-loop-byte l = (digits_value_after 10 l.value (drop l.byte-index l.digits) ≡ digits_value 10 l.digits)
    × (all_ascii_digits (drop l.byte-index l.digits) ≡ true) × (l.value ≤ 1048576)
