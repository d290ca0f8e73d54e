use Rattle.sqlite.specs.Order.{column}
use Rattle.gaz_row_items.specs.Versions.{IsText}
use Rattle.gaz_row_items.proofs.Told.{each_at}
use Rattle.gaz_row_items.proofs.decoding.body_lines.Goals as goal

pub returns-in_err-body : goal.returns-in_err-body
returns-in_err-body c = λ each.
    absurd (c.in_err-body.ensures.told (each_at (λ r. IsText (column r c.args.at)) c.args.rows.now c.loop-row.row-index c.row-item.result each c.loop-row-test.true c.row-item.is))
