use Rattle.std.proofs.Common.{◌≡◌, ◌∙◌, IfOk, sym, subst}
use Rattle.std.specs.FinMap as map
use Rattle.gaz_records.specs.declared.key.Key.TheVariants as key
use Rattle.gaz_views.specs.Words.{address_of}
use Rattle.gaz_kept.specs.LastViews.{last_in}
use Rattle.gaz_keeper.proofs.Faults.{passed_on}
use Rattle.gaz_calls.proofs.Answered.{asked_fault}
use Rattle.gaz_calls.proofs.Composing.{asked_then}
use Rattle.gaz_kept.proofs.KeysTold.{its_property}
use Rattle.gaz_calls.proofs.tables.Tables.property_of.Goals as goal

pub returns-in_err-address : goal.returns-in_err-address
returns-in_err-address g c = rw (passed_on _ _ c.from_residual-in_err-address.ensures.1) (asked_fault _ _ _ _ _ _ _ _ _ c.current.ensures c.address_of.ensures c.in_err-address.was)

pub returns : goal.returns
returns g c =
    asked_then _ _ _ _ _ _ _ _ _ c.current.ensures c.address_of.ensures (record { kept = c.address_of.ensures.tallies.kept; store = tt }) (λ fine. tt) (λ db kept found at.
    its_property (last_in db c.args.code) c.args.uprn c.in-Some.blpu c.in_ok-address.address
    (sym c.in-Some.is ∙ subst (λ r. IfOk r (λ i. i ≡ map.get (last_in db c.args.code).items (key.Blpu c.args.uprn))) c.in_ok-found.was found)
    (subst (λ r. IfOk r (λ i. i ≡ address_of (last_in db c.args.code) c.args.uprn)) c.in_ok-address.was at))
