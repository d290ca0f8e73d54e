use Rattle.std.proofs.Common.{subst, sym}
use Rattle.gaz_row_items.specs.Addresses.{SaysLeast}
use Rattle.gaz_calls.proofs.Answered.{asked_read}
use Rattle.gaz_kept.proofs.KeysTold.{address_of_told}
use Rattle.gaz_answers.proofs.ShownVersions.{addresses_shown}
use Rattle.gaz_records.specs.declared.item.Kind.TheVariants as kind
use Rattle.gaz_row_items.specs.Decoding.{Each, ShowsItem}
use Rattle.gaz_calls.proofs.tables.Tables.address_of.Goals as goal

pub returns : goal.returns
returns g c =
    asked_read _ _ _ _ c.in_ok-rows.rows c.least_said.result _ _ _ _ _ c.approved_rows.ensures c.in_ok-rows.was c.least_said.ensures.said c.least_said.ensures.told c.read.ensures
    (λ db kept found. subst (Each (ShowsItem kind.Lpi)) (sym c.deref.ensures.value) (addresses_shown db c.args.code c.args.uprn c.in_ok-rows.rows.items kept found))
    (λ db kept found address says.
    address_of_told db c.args.code c.args.uprn c.in_ok-rows.rows.items kept found address (subst (λ l. SaysLeast l address) c.deref.ensures.value says))
