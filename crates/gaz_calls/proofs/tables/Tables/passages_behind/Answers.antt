use Rattle.std.proofs.Common.{subst, sym}
use Rattle.gaz_answers.specs.Passages.{IsStartOf, SayPassages}
use Rattle.gaz_calls.proofs.Answered.{asked_read}
use Rattle.gaz_calls.proofs.PassagesTold.{passages_told}
use Rattle.gaz_answers.proofs.ShownPassages.{passages_shown}
use Rattle.gaz_answers.specs.Passages.{ShowsPassed}
use Rattle.gaz_row_items.specs.Decoding.{Each}
use Rattle.gaz_calls.proofs.tables.Tables.passages_behind.Goals as goal

pub returns : goal.returns
returns g c =
    asked_read _ _ _ _ c.in_ok-rows.rows c.passages_in.result _ _ _ _ _ c.passage_rows.ensures c.in_ok-rows.was c.passages_in.ensures.said c.passages_in.ensures.told c.read.ensures
    (λ db kept found. subst (Each ShowsPassed) (sym c.deref.ensures.value) (passages_shown db kept c.args.code _ _ 512 c.in_ok-rows.rows.items found))
    (λ db kept found passages say.
    passages_told db kept c.args.code c.args.after c.as_str.result.now c.in_ok-start.start.1
    (subst (λ id. IsStartOf c.args.after (id, c.in_ok-start.start.1)) (sym c.as_str.ensures.value) c.in_ok-start.ensures)
    c.in_ok-rows.rows.items found passages.items
    (subst (λ rows. SayPassages rows passages.items) c.deref.ensures.value say))
