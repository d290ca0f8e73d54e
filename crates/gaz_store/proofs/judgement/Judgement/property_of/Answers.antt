use Rattle.std.proofs.Common.{◌≡◌, ◌∙◌, IfOk, subst, sym}
use Rattle.std.specs.FinMap as map
use Rattle.gaz_records.specs.declared.key.Key.TheVariants as key
use Rattle.gaz_keeper.proofs.Faults.{passed_on}
use Rattle.gaz_calls.proofs.Answered.{asked_fault, asked_step}
use Rattle.gaz_store.specs.Beside.{Beside}
use Rattle.gaz_store.proofs.Turning.{its_property_beside}
use Rattle.gaz_store.proofs.judgement.Judgement.property_of.Goals as goal

pub returns : goal.returns
returns g c =
    asked_step _ _ _ _ c.address_of.result c.in_ok-address.address _ _ _ _ c.item.ensures c.address_of.ensures c.in_ok-address.was (λ db kept was address w makes.
    let found = subst (λ r. IfOk r (λ i. Beside db c.args.self.now (λ w. i ≡ map.get w.items (key.Blpu c.args.uprn)))) c.in_ok-found.was was in
    its_property_beside db c.args.self.now w makes c.args.uprn c.in-Some.blpu c.in_ok-address.address (sym c.in-Some.is ∙ found w makes) (address w makes))

pub returns-in_err-address : goal.returns-in_err-address
returns-in_err-address g c = rw (passed_on _ _ c.from_residual-in_err-address.ensures.1) (asked_fault _ _ _ _ _ _ _ _ _ c.item.ensures c.address_of.ensures c.in_err-address.was)
