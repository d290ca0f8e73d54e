use Rattle.std.proofs.Common.{◌∙◌, ◌+◌, ◌++◌, [], ◌∷◌, ap, subst, sym, take}
use Rattle.std.specs.Prelude.{if◌then◌else◌}
use Rattle.gaz_loaded.specs.declared.listed.Passage.{Passage}
use Rattle.gaz_answers.specs.Passages.{SayPassages, SaysPassage, ShowsPassed}
use Rattle.gaz_answers.proofs.PassageRows.{say_next}
use Rattle.gaz_row_items.proofs.Told.{each_at}
use Rattle.gaz_answers.proofs.passages.passages_in.Goals as goal

pub loop-row-preserved : goal.loop-row-preserved
loop-row-preserved c =
    let passages = c.loop-row.passages.items in
    let x : Passage = record { uprn = c.in_ok-uprn.uprn; born = c.in_ok-passed.passed.born; custody = c.in_ok-passed.passed.custody } in
    let says : SaysPassage c.row-item.result x = record { number = c.in_ok-uprn.ensures.said; passed = c.in_ok-passed.ensures.said } in
    let rows = c.args.rows.now in
    let i = c.loop-row.row-index in
    let pushed = c.push.ensures.items ∙ ap (λ b. if b then passages ++ x ∷ [] else passages) c.if-is_err.ensures.negation in
    subst (SayPassages (take (i + 1) rows)) (sym pushed) (say_next rows i c.row-item.result x passages c.loop-row-test.true c.row-item.is says c.loop-row.invariant)

pub returns-in_err-uprn-clause-told : goal.returns-in_err-uprn-clause-told
returns-in_err-uprn-clause-told c = λ each.
    let row = each_at ShowsPassed c.args.rows.now c.loop-row.row-index c.row-item.result each c.loop-row-test.true c.row-item.is in
    absurd (c.in_err-uprn.ensures.told row.number)

pub returns-in_err-passed-clause-told : goal.returns-in_err-passed-clause-told
returns-in_err-passed-clause-told c = λ each.
    let row = each_at ShowsPassed c.args.rows.now c.loop-row.row-index c.row-item.result each c.loop-row-test.true c.row-item.is in
    absurd (c.in_err-passed.ensures.told row.passage)
