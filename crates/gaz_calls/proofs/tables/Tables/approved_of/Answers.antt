use Rattle.std.proofs.Common.{subst, sym}
use Rattle.gaz_row_items.specs.Addresses.{SaysKeys}
use Rattle.gaz_calls.proofs.Answered.{asked_read}
use Rattle.gaz_kept.proofs.KeysTold.{approved_of_told}
use Rattle.gaz_answers.proofs.ShownVersions.{names_shown}
use Rattle.gaz_row_items.specs.Addresses.{NamesAddress}
use Rattle.gaz_row_items.specs.Decoding.{Each}
use Rattle.gaz_calls.proofs.tables.Tables.approved_of.Goals as goal

pub returns : goal.returns
returns g c =
    asked_read _ _ _ _ c.in_ok-rows.rows c.keys_said.result _ _ _ _ _ c.approved_rows.ensures c.in_ok-rows.was c.keys_said.ensures.said c.keys_said.ensures.told c.read.ensures
    (λ db kept found. subst (Each NamesAddress) (sym c.deref.ensures.value) (names_shown db c.args.code c.args.uprn c.in_ok-rows.rows.items kept found))
    (λ db kept found keys says.
    approved_of_told db c.args.code c.args.uprn c.in_ok-rows.rows.items kept found keys.items (subst (λ l. SaysKeys l keys.items) c.deref.ensures.value says))
