use Rattle.gaz_row_items.proofs.Told.{each_at}
use Rattle.gaz_answers.specs.Streets.{ShowsOnStreet}
use Rattle.gaz_answers.proofs.steps.any_says.Goals as goal

pub returns-in_err-says_left-clause-told : goal.returns-in_err-says_left-clause-told
returns-in_err-says_left-clause-told c = λ each.
    absurd (c.in_err-says_left.ensures.told (each_at ShowsOnStreet c.args.rows.now c.loop-row.row-index c.row-item.result each c.loop-row-test.true c.row-item.is))
