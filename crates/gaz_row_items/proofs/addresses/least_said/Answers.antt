use Rattle.std.proofs.Common.{IfOk, subst, sym}
use Rattle.gaz_row_items.specs.Addresses.{SaysFirst, ShowsFirst}
use Rattle.gaz_row_items.proofs.KeysNamed.{first_shown, least_of}
use Rattle.gaz_row_items.proofs.addresses.least_said.Goals as goal

pub returns-clause-said : goal.returns-clause-said
returns-clause-said c =
    least_of c.args.rows.now c.in_ok-keys.keys.items c.first_said.result c.in_ok-keys.ensures.said
    (subst (λ l. IfOk c.first_said.result (SaysFirst c.args.rows.now l)) c.deref.ensures.value c.first_said.ensures.said)

pub returns-clause-told : goal.returns-clause-told
returns-clause-told c = λ each.
    c.first_said.ensures.told (subst (ShowsFirst c.args.rows.now) (sym c.deref.ensures.value) (first_shown c.args.rows.now c.in_ok-keys.keys.items c.in_ok-keys.ensures.said each))
