use Rattle.gaz_register.specs.Reading.{custodian_from}
use Rattle.gaz_register.proofs.Gather.{Gathers}
use Rattle.gaz_register.proofs.read.custodians_from.Given as goal

abbrev pub invariant-loop-draft : goal.invariant-loop-draft
invariant-loop-draft l = Gathers custodian_from (λ c. c.code) l.custodians.items l.draft-index l.drafts
