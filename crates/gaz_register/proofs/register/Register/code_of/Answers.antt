use Rattle.std.proofs.Common.{refl}
use Rattle.gaz_register.proofs.Codes.{unknown_code}
use Rattle.gaz_register.proofs.Registered.{codes-sorted}
use Rattle.gaz_register.proofs.register.Register.code_of.Goals as goal

pub find_custodian-requires : goal.find_custodian-requires
find_custodian-requires c = rw c.custodians-custodians.ensures.value (codes-sorted _ c.custodians-custodians.ensures.lawful)

pub returns-in_default : goal.returns-in_default
returns-in_default c = rw (unknown_code _ _ c.custodians-custodians.ensures.lawful.lawful (rw c.in_default.is at c.of.ensures)) refl
