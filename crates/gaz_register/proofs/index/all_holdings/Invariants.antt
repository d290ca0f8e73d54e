use Rattle.std.proofs.Common.{◌≡◌, take}
use Rattle.gaz_register.specs.Indexes.{blocks_in, holdings_of}
use Rattle.gaz_register.proofs.index.all_holdings.Given as goal

abbrev pub invariant-loop-custodian : goal.invariant-loop-custodian
invariant-loop-custodian l = l.holdings.items ≡ holdings_of (blocks_in l.kind) (take l.custodian-index l.custodians)
