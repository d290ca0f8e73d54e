use Rattle.std.proofs.Common.{subst, sym}
use Rattle.gaz_tables.specs.Schema.{received}
use Rattle.gaz_tables.specs.Tables.{rows_of}
use Rattle.gaz_answers.specs.Answers.{SaysBytes, ShowsBytes}
use Rattle.gaz_answers.proofs.Bytes.{bytes_told}
use Rattle.gaz_calls.proofs.Answered.{asked_read}
use Rattle.gaz_answers.proofs.ShownFiles.{bytes_shown}
use Rattle.gaz_row_items.specs.Decoding.{Each}
use Rattle.gaz_kept.proofs.Stands.{are_files}
use Rattle.gaz_calls.proofs.tables.Tables.received.Goals as goal

pub returns : goal.returns
returns g c =
    asked_read _ _ _ _ c.in_ok-rows.rows c.first_bytes.result _ _ _ _ _ c.file_rows.ensures c.in_ok-rows.was c.first_bytes.ensures.said c.first_bytes.ensures.told c.read.ensures
    (λ db kept found. subst (Each ShowsBytes) (sym c.deref.ensures.value) (bytes_shown c.args.code c.args.volume db c.in_ok-rows.rows.items kept found))
    (λ db kept found bytes says. bytes_told c.args.code c.args.volume (rows_of db received) c.in_ok-rows.rows.items (are_files db kept) found bytes (subst (λ rows. SaysBytes rows bytes) c.deref.ensures.value says))
