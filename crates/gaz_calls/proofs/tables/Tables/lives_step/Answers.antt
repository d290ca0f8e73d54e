use Rattle.std.proofs.Common.{subst, sym}
use Rattle.gaz_answers.specs.Lives.{IsLifePage}
use Rattle.gaz_calls.proofs.Answered.{asked_read, told_so}
use Rattle.gaz_answers.proofs.LivesTold.{page_tells}
use Rattle.gaz_answers.proofs.ShownVersions.{versions_shown}
use Rattle.gaz_answers.specs.Lives.{ShowsVersion}
use Rattle.gaz_row_items.specs.Decoding.{Each}
use Rattle.gaz_calls.proofs.tables.Tables.lives_step.Goals as goal

pub returns-clause-asks : goal.returns-clause-asks
returns-clause-asks g c =
    asked_read _ _ _ _ c.in_ok-rows.rows c.page_told.result _ _ _ _ _ c.rows_in_turn.ensures c.in_ok-rows.was c.page_told.ensures.said c.page_told.ensures.told c.read.ensures
    (λ db kept found. subst (Each ShowsVersion) (sym c.deref.ensures.value) (versions_shown db kept c.args.after 512 c.in_ok-rows.rows.items found))
    (λ db kept found page said.
    page_tells db kept c.args.after c.in_ok-rows.rows.items found page
    (subst (λ rows. IsLifePage rows page) c.deref.ensures.value said))

pub returns-clause-entries : goal.returns-clause-entries
returns-clause-entries g c = told_so _ _ _ c.page_told.result _ _ c.read.ensures c.page_told.ensures.entries
