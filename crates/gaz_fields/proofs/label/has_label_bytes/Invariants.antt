use Rattle.std.proofs.Common.{◌≡◌, drop}
use Rattle.gaz_fields.specs.Labels.{are_label_bytes}
use Rattle.gaz_fields.proofs.label.has_label_bytes.Given as goal

abbrev pub invariant-loop-byte : goal.invariant-loop-byte
invariant-loop-byte l = are_label_bytes (drop l.byte-index l.bytes) ≡ are_label_bytes l.bytes
