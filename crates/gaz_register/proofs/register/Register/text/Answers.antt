use Rattle.gaz_register.proofs.Utf8.{register-utf8}
use Rattle.gaz_register.proofs.register.Register.text.Goals as goal

pub unreachable-requires : goal.unreachable-requires
unreachable-requires c =
    let utf8 = register-utf8 c.args.self.now c.custodians.ensures.lawful.lawful in
    let never = c.in-Err.ensures.succeeds (rw (c.in_ok-text.ensures, c.custodians.ensures.value) utf8) in
    cc never
