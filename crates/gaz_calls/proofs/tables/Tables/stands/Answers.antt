use Rattle.std.proofs.Common.{◌∙◌, subst, sym}
use Rattle.std.specs.FinMap as map
use Rattle.gaz_tables.specs.Schema.{version2}
use Rattle.gaz_tables.specs.Tables.{rows_of}
use Rattle.gaz_row_items.specs.Newest.{SaysStood, TellsStood, stood_by}
use Rattle.gaz_row_items.specs.Versions.{histories_in}
use Rattle.gaz_kept.specs.LastViews.{last_in}
use Rattle.gaz_calls.proofs.Answered.{asked_read}
use Rattle.gaz_calls.proofs.Passed.{stood_told}
use Rattle.gaz_kept.proofs.KeysTold.{stood_of_rows}
use Rattle.gaz_answers.proofs.ShownVersions.{stood_shown}
use Rattle.gaz_records.specs.Kinds.{number_of}
use Rattle.gaz_row_items.specs.Newest.{HasStood}
use Rattle.gaz_calls.proofs.tables.Tables.stands.Goals as goal

pub returns : goal.returns
returns g c =
    asked_read _ _ _ _ c.in_ok-rows.rows c.stood_said.result _ _ _ _ _ c.newest_rows.ensures c.in_ok-rows.was c.stood_said.ensures.said c.stood_said.ensures.told c.read_without_memory.ensures
    (λ db kept found. subst HasStood (sym c.deref-2.ensures.value) (stood_shown db c.args.code (number_of c.kind_in.result) c.deref.result.now c.in_ok-rows.rows.items kept found))
    (λ db kept found stood says.
    let rows = histories_in (rows_of db version2) c.args.code in
    let last = last_in db c.args.code in
    let k = c.args.key.now in
    let it = stood_of_rows db c.args.code k c.kind_in.result c.deref.result.now c.in_ok-rows.rows.items stood kept c.id_of.ensures.form c.kind_in.ensures
    (c.deref.ensures ∙ c.in_ok-name.ensures.id) found
    (subst (λ l. SaysStood l stood) c.deref-2.ensures.value says) in
    let told = stood_told db c.args.code k it.0 kept it.1 in
    subst (λ s. TellsStood rows last k s (map.get last.items k)) (sym it.2)
    (subst (λ i. TellsStood rows last k (stood_by it.0) i) told.is_item told))
