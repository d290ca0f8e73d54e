use Rattle.std.proofs.Common.{arith}
use Rattle.gaz_register.proofs.Gather.{ok-of}
use Rattle.gaz_register.proofs.Lawful.{custodians-lawful}
use Rattle.gaz_register.proofs.register.Register.read.Goals as goal

pub of-requires-clause-few : goal.of-requires-clause-few
of-requires-clause-few c =
    let given = ok-of c.in_ok-custodians.custodians.items _ c.in_ok-custodians.ensures.value in
    let count = (custodians-lawful c.deref.result.now c.in_ok-custodians.custodians.items given).count in
    omega arith

pub of-requires-clause-lawful : goal.of-requires-clause-lawful
of-requires-clause-lawful c =
    let given = ok-of c.in_ok-custodians.custodians.items _ c.in_ok-custodians.ensures.value in
    (custodians-lawful c.deref.result.now c.in_ok-custodians.custodians.items given).each
