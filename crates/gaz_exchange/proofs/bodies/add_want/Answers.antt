use Rattle.std.proofs.Common.{codes, decimal}
use Rattle.gaz_exchange.proofs.BodyFacts.{with_five}
use Rattle.gaz_exchange.proofs.bodies.add_want.Goals as goal

pub returns : goal.returns
returns c = rw (c.in_ok-extend_from_slice.ensures.items, c.in_ok-add_number-2.ensures, c.in_ok-add_number.ensures, c.number.ensures.value, c.number-2.ensures.value)
    (with_five c.args.out.now.items (codes "{\"custodian\":") (decimal c.args.custodian) (codes ",\"volume\":") (decimal c.args.volume) (codes "}"))
