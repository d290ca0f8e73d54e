use Rattle.std.proofs.Common.{◌≡◌, ◌++◌, map, take}
use Rattle.gaz_register.specs.Indexes.{holding}
use Rattle.gaz_register.proofs.index.add_blocks.Given as goal

abbrev pub invariant-loop-block : goal.invariant-loop-block
invariant-loop-block l = l.holdings.items ≡ l.initial.holdings.items ++ map (holding l.owner) (take l.block-index l.blocks)
