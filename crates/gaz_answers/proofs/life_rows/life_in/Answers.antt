use Rattle.std.proofs.Common.{◌≡◌, rules}
use Rattle.gaz_row_items.specs.declared.fault.RowFault.TheVariants.{Memory}
use Rattle.gaz_answers.proofs.VersionRows.{item_row}
use Rattle.gaz_answers.proofs.life_rows.life_in.Goals as goal

pub returns-in_err-place-clause-told : goal.returns-in_err-place-clause-told
returns-in_err-place-clause-told c = λ shows. absurd (c.in_err-place.ensures.told (shows.0.place, shows.0.rowid))

pub returns-in_err-code-clause-told : goal.returns-in_err-code-clause-told
returns-in_err-code-clause-told c = λ shows.
    let row = item_row c.args.row.now shows in
    absurd (c.in_err-code.ensures.told (row.cust, row.custodian))

pub returns-in_err-born-clause-told : goal.returns-in_err-born-clause-told
returns-in_err-born-clause-told c = λ shows. absurd (c.in_err-born.ensures.told (item_row c.args.row.now shows).born)

pub returns-in_err-gone-clause-told : goal.returns-in_err-gone-clause-told
returns-in_err-gone-clause-told c = λ shows. absurd (c.in_err-gone.ensures.told (item_row c.args.row.now shows).gone)

pub returns-in_err-check_hop-clause-told : goal.returns-in_err-check_hop-clause-told
returns-in_err-check_hop-clause-told c = λ shows. absurd (c.in_err-check_hop.ensures.told (item_row c.args.row.now shows).hop)

pub returns-in_err-item-clause-told : goal.returns-in_err-item-clause-told
returns-in_err-item-clause-told c = λ shows.
    let why : c.in_err-item.field-0.0 ≡ Memory = c.in_err-item.ensures.told (item_row c.args.row.now shows) in
    search rules
