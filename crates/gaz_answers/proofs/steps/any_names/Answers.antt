use Rattle.gaz_row_items.proofs.Told.{each_at}
use Rattle.gaz_answers.specs.Streets.{ShowsPart}
use Rattle.gaz_answers.proofs.steps.any_names.Goals as goal

pub returns-in_err-leaves-clause-told : goal.returns-in_err-leaves-clause-told
returns-in_err-leaves-clause-told c = λ each.
    absurd (c.in_err-leaves.ensures.told (each_at (ShowsPart c.args.kind) c.args.rows.now c.loop-row.row-index c.row-item.result each c.loop-row-test.true c.row-item.is))
