use Rattle.std.proofs.Common.{◌≡◌, ◌+◌, take, string_bytes}
use Rattle.gaz_register.specs.Texts.{blocks_text}
use Rattle.gaz_register.proofs.text.blocks_text.Given as goal

abbrev pub invariant-loop-block : goal.invariant-loop-block
invariant-loop-block l = string_bytes l.text ≡ blocks_text (take (l.block-index + 1) l.blocks)
