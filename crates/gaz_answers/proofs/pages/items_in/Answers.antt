use Rattle.std.proofs.Common.{◌≡◌, rules}
use Rattle.gaz_row_items.specs.Decoding.{ShowsItem}
use Rattle.gaz_row_items.specs.declared.fault.RowFault.TheVariants.{Memory}
use Rattle.gaz_row_items.proofs.Told.{each_at, shown_body}
use Rattle.gaz_answers.proofs.pages.items_in.Goals as goal

pub returns-in_err-lines-clause-told : goal.returns-in_err-lines-clause-told
returns-in_err-lines-clause-told c = λ each.
    let why : c.in_err-lines.field-0.0 ≡ Memory = c.in_err-lines.ensures (λ r there. shown_body c.args.kind r (each r there)) in
    search rules

pub returns-in_err-item-clause-told : goal.returns-in_err-item-clause-told
returns-in_err-item-clause-told c = λ each.
    let why : c.in_err-item.field-0.0 ≡ Memory = c.in_err-item.ensures.told (each_at (ShowsItem c.args.kind) c.args.rows.now c.loop-row.row-index c.row-item.result each c.loop-row-test.true c.row-item.is) in
    search rules
