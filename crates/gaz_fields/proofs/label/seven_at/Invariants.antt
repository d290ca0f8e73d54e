use Rattle.std.proofs.Common.{◌≡◌, ◌<◌, ◌^◌, drop}
use Rattle.gaz_fields.specs.Labels.{word}
use Rattle.gaz_fields.proofs.label.seven_at.Given as goal

abbrev pub invariant-loop-offset : goal.invariant-loop-offset
invariant-loop-offset l = (l.word ≡ word l.offset (drop l.start l.bytes)) × (l.word < 256 ^ l.offset)
