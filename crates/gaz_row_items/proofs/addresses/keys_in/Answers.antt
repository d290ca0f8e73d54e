use Rattle.gaz_row_items.specs.Addresses.{NamesAddress}
use Rattle.gaz_row_items.proofs.Told.{each_at}
use Rattle.gaz_row_items.proofs.addresses.keys_in.Goals as goal

pub returns-in_err-key-clause-told : goal.returns-in_err-key-clause-told
returns-in_err-key-clause-told c = λ each.
    absurd (c.in_err-key.ensures.told (each_at NamesAddress c.args.rows.now c.loop-row.row-index c.row-item.result each c.loop-row-test.true c.row-item.is))
