use Rattle.std.proofs.Common.{◌∙◌, subst, sym}
use Rattle.gaz_row_items.specs.NewestPassages.{SaysPassage}
use Rattle.gaz_calls.proofs.Answered.{asked_read}
use Rattle.gaz_calls.proofs.Passed.{passed_told}
use Rattle.gaz_answers.proofs.ShownPassages.{passage_shown}
use Rattle.gaz_row_items.specs.Decoding.{Each}
use Rattle.gaz_row_items.specs.NewestPassages.{ShowsPassage}
use Rattle.gaz_calls.proofs.tables.Tables.passed.Goals as goal

pub returns : goal.returns
returns g c =
    asked_read _ _ _ _ c.in_ok-rows.rows c.passage_said.result _ _ _ _ _ c.custody_rows.ensures c.in_ok-rows.was c.passage_said.ensures.said c.passage_said.ensures.told c.read_without_memory.ensures
    (λ db kept found. subst (Each (ShowsPassage 0)) (sym c.deref-2.ensures.value) (passage_shown db kept c.args.code c.deref.result.now c.in_ok-rows.rows.items found))
    (λ db kept found passed says.
    passed_told db c.args.code c.args.uprn c.deref.result.now c.in_ok-rows.rows.items passed kept c.id_of.ensures.form
    (c.deref.ensures ∙ c.in_ok-name.ensures.id) found
    (subst (λ l. SaysPassage l passed) c.deref-2.ensures.value says))
