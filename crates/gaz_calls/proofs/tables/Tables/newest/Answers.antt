use Rattle.std.proofs.Common.{◌∙◌, subst, sym}
use Rattle.gaz_row_items.specs.Newest.{SaysNewest}
use Rattle.gaz_calls.proofs.Answered.{asked_read}
use Rattle.gaz_kept.proofs.KeysTold.{newest_of}
use Rattle.gaz_answers.proofs.ShownVersions.{newest_shown}
use Rattle.gaz_row_items.specs.Newest.{HasNewest}
use Rattle.gaz_calls.proofs.tables.Tables.newest.Goals as goal

pub returns : goal.returns
returns g c =
    asked_read _ _ _ _ c.in_ok-rows.rows c.newest_said.result _ _ _ _ _ c.newest_rows.ensures c.in_ok-rows.was c.newest_said.ensures.said c.newest_said.ensures.told c.read.ensures
    (λ db kept found. let it = newest_shown db c.args.code c.args.key.now c.kind_in.result c.deref.result.now c.in_ok-rows.rows.items kept c.id_of.ensures.form c.kind_in.ensures (c.deref.ensures ∙ c.in_ok-name.ensures.id) found in subst (λ l. HasNewest c.args.key.now l) (sym c.deref-2.ensures.value) it)
    (λ db kept found life says.
    newest_of db c.args.code c.args.key.now c.kind_in.result c.deref.result.now c.in_ok-rows.rows.items life kept c.id_of.ensures.form c.kind_in.ensures
    (c.deref.ensures ∙ c.in_ok-name.ensures.id) found
    (subst (λ l. SaysNewest c.args.key.now l life) c.deref-2.ensures.value says))
