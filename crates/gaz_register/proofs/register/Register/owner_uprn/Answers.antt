use Rattle.std.proofs.Common.{◌∙◌, List, ap}
use Rattle.gaz_register.specs.Registers.{CustodianValue, owner_of_uprn}
use Rattle.gaz_register.proofs.Registered.{owner-indexed}
use Rattle.gaz_register.proofs.register.Register.owner_uprn.Goals as goal

pub returns : goal.returns
returns c =
    let inside = c.self.inside in
    let lawful = c.self.invariant.lawful in
    rw (c.number.ensures.value, c.deref.ensures.value) at c.owner_at.ensures
    ∙ owner-indexed (λ b. b.uprn) inside.custodians.items inside.uprn.items c.args.uprn c.self.invariant.by_uprn lawful.uprn_disjoint
    ∙ ap (λ (r : List CustodianValue). owner_of_uprn r c.args.uprn) c.self.view_is
