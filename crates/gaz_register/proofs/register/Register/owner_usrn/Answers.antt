use Rattle.std.proofs.Common.{◌∙◌, List, ap}
use Rattle.gaz_register.specs.Registers.{CustodianValue, owner_of_usrn}
use Rattle.gaz_register.proofs.Registered.{owner-indexed}
use Rattle.gaz_register.proofs.register.Register.owner_usrn.Goals as goal

pub returns : goal.returns
returns c =
    let inside = c.self.inside in
    let lawful = c.self.invariant.lawful in
    rw (c.number.ensures.value, c.deref.ensures.value) at c.owner_at.ensures
    ∙ owner-indexed (λ b. b.usrn) inside.custodians.items inside.usrn.items c.args.usrn c.self.invariant.by_usrn lawful.usrn_disjoint
    ∙ ap (λ (r : List CustodianValue). owner_of_usrn r c.args.usrn) c.self.view_is
