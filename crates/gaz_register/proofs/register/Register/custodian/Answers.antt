use Rattle.gaz_register.proofs.Registered.{codes-sorted}
use Rattle.gaz_register.proofs.register.Register.custodian.Goals as goal

pub find_custodian-requires : goal.find_custodian-requires
find_custodian-requires c = rw c.deref.ensures.value (codes-sorted c.self.inside.custodians.items c.self.invariant.lawful)
