use Rattle.gaz_shelf.proofs.Lawful.{none_lawful}
use Rattle.gaz_shelf.proofs.accounts.Accounts.new.Goals as goal

pub invariant_of-result : goal.invariant_of-result
invariant_of-result c = record { lawful = none_lawful c.new.result.entries c.new.ensures.empty }
