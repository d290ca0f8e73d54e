use Rattle.gaz_row_items.proofs.Told.{each_at}
use Rattle.gaz_answers.specs.Volumes.{ShowsVolume}
use Rattle.gaz_answers.proofs.volumes.volumes_in.Goals as goal

pub returns-in_err-volume-clause-told : goal.returns-in_err-volume-clause-told
returns-in_err-volume-clause-told c = λ each.
    absurd (c.in_err-volume.ensures.told (each_at ShowsVolume c.args.rows.now c.loop-row.row-index c.row-item.result each c.loop-row-test.true c.row-item.is))
