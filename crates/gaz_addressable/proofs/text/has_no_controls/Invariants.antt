use Rattle.std.proofs.Common.{◌≡◌, drop}
use Rattle.std.specs.List.{list_any}
use Rattle.gaz_addressable.specs.Texts.{is_control}
use Rattle.gaz_addressable.proofs.text.has_no_controls.Given as goal

abbrev pub invariant-loop-byte : goal.invariant-loop-byte
invariant-loop-byte l = list_any is_control (drop l.byte-index l.bytes) ≡ list_any is_control l.bytes
