use Rattle.std.proofs.Common.{subst, sym}
use Rattle.gaz_answers.specs.Answers.{SaysVerdict}
use Rattle.gaz_calls.proofs.Answered.{asked_read}
use Rattle.gaz_answers.proofs.Verdicts.{verdict_told}
use Rattle.gaz_answers.proofs.ShownFiles.{verdict_shown_whole}
use Rattle.gaz_answers.specs.Answers.{ShowsVerdict}
use Rattle.gaz_row_items.specs.Decoding.{Each}
use Rattle.gaz_calls.proofs.tables.Tables.verdict.Goals as goal

pub returns : goal.returns
returns g c =
    asked_read _ _ _ _ c.in_ok-rows.rows c.verdict_said.result _ _ _ _ _ c.verdict_rows.ensures c.in_ok-rows.was c.verdict_said.ensures.said c.verdict_said.ensures.told c.read_without_memory.ensures
    (λ db kept found. subst (Each ShowsVerdict) (sym c.deref.ensures.value) (verdict_shown_whole c.args.code c.args.volume db c.in_ok-rows.rows.items kept found))
    (λ db kept found verdict says.
    verdict_told c.args.code c.args.volume db c.in_ok-rows.rows.items kept found verdict (subst (λ rows. SaysVerdict rows verdict) c.deref.ensures.value says))
