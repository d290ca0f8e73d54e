use Rattle.gaz_register.specs.Reading.{block_from}
use Rattle.gaz_register.proofs.Gather.{Gathers}
use Rattle.gaz_register.proofs.read.blocks_from.Given as goal

abbrev pub invariant-loop-pair : goal.invariant-loop-pair
invariant-loop-pair l = Gathers (block_from l.most) (λ b. b.0) l.blocks.items l.pair-index l.pairs
