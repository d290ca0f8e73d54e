use Rattle.std.proofs.Common.{◌≡◌, ◌∙◌, ◌<◌, IfOk, arith, length, subst, sym}
use Rattle.gaz_keeper.specs.Received.{count_above}
use Rattle.gaz_tables.specs.Receiveds.{FindsAbove}
use Rattle.gaz_tables.specs.Schema.{received}
use Rattle.gaz_tables.specs.Tables.{rows_of}
use Rattle.gaz_kept.specs.Files.{files_in}
use Rattle.gaz_kept.proofs.Stands.{are_files}
use Rattle.gaz_calls.proofs.Answered.{answered_ok}
use Rattle.gaz_answers.proofs.ShownFiles.{few_above}
use Rattle.gaz_calls.proofs.Composing.{asked_nothing, failed}
use Rattle.gaz_calls.proofs.Waiting.{counted_above, none_beyond}
use Rattle.gaz_calls.proofs.tables.Tables.count_above.Goals as goal

pub returns-then-volume-gt-LAST_VOLUME : goal.returns-then-volume-gt-LAST_VOLUME
returns-then-volume-gt-LAST_VOLUME g c = asked_nothing _ 0 _ (λ db kept. none_beyond db kept c.args.code c.args.volume (omega arith))

pub returns : goal.returns
returns g c =
    let few : length c.in_ok-rows.rows.items < 1000000 = omega arith in
    let all : c.len-2.result ≡ length c.in_ok-rows.rows.items = omega arith in
    answered_ok _ _ c.rows_above.result c.in_ok-rows.rows c.len-2.result _ (λ db n. n ≡ count_above (files_in (rows_of db received)) c.args.code c.args.volume) c.rows_above.ensures c.in_ok-rows.was (λ db kept found.
    all ∙ sym (counted_above c.args.code c.args.volume 1000000 (rows_of db received) c.in_ok-rows.rows.items (are_files db kept) found few))

pub returns-then-len : goal.returns-then-len
returns-then-len g c =
    failed _ _ _ c.rows_above.result _ _ _ c.rows_above.ensures (λ db kept found.
    let few = few_above c.args.code c.args.volume db c.in_ok-rows.rows.items kept 1000000 (subst (λ r. IfOk r (λ rows. FindsAbove c.args.code c.args.volume 1000000 (rows_of db received) rows.items)) c.in_ok-rows.was found) in
    omega (arith, few)) c.fail.ensures.fails
