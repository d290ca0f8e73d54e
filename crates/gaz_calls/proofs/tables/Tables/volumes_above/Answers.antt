use Rattle.std.proofs.Common.{arith, subst, sym}
use Rattle.gaz_tables.specs.Schema.{received}
use Rattle.gaz_tables.specs.Tables.{rows_of}
use Rattle.gaz_kept.proofs.Stands.{are_files}
use Rattle.gaz_answers.specs.Volumes.{SayVolumes}
use Rattle.gaz_calls.proofs.Answered.{asked_read}
use Rattle.gaz_calls.proofs.Composing.{asked_nothing}
use Rattle.gaz_answers.proofs.VolumesTold.{none_above, volumes_told}
use Rattle.gaz_answers.proofs.ShownFiles.{volumes_shown}
use Rattle.gaz_answers.specs.Volumes.{ShowsVolume}
use Rattle.gaz_row_items.specs.Decoding.{Each}
use Rattle.gaz_calls.proofs.tables.Tables.volumes_above.Goals as goal

pub returns-then-volume-gt-LAST_VOLUME : goal.returns-then-volume-gt-LAST_VOLUME
returns-then-volume-gt-LAST_VOLUME g c =
    asked_nothing _ c.new.result _ (λ db kept. none_above db kept c.args.code c.args.volume c.new.result.items (omega arith) c.new.ensures.items)

pub returns : goal.returns
returns g c =
    asked_read _ _ _ _ c.in_ok-rows.rows c.volumes_in.result _ _ _ _ _ c.rows_above.ensures c.in_ok-rows.was c.volumes_in.ensures.said c.volumes_in.ensures.told c.read.ensures
    (λ db kept found. subst (Each ShowsVolume) (sym c.deref.ensures.value) (volumes_shown c.args.code c.args.volume db c.in_ok-rows.rows.items kept 512 found))
    (λ db kept found volumes say.
    volumes_told c.args.code c.args.volume (rows_of db received) c.in_ok-rows.rows.items (are_files db kept) found volumes.items
    (subst (λ rows. SayVolumes rows volumes.items) c.deref.ensures.value say))
