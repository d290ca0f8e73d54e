use Rattle.std.proofs.Common.{Ok, Some, rules, subst, sym, w64}
use Rattle.std.proofs.lemmas.Int.{to_z-of_z}
use mir.Val.{SFits}
use Rattle.gaz_tables.specs.Schema.{version2}
use Rattle.gaz_tables.specs.Tables.{rows_of}
use Rattle.gaz_calls.specs.Asking.{AsksTables}
use Rattle.gaz_answers.specs.Lives.{GoesOn, TellsPage}
use Rattle.gaz_keeper.proofs.Faults.{passed_on}
use Rattle.gaz_calls.proofs.Answered.{asked_fault, asked_step}
use Rattle.gaz_calls.proofs.Composing.{asked_nothing, wanting}
use Rattle.gaz_answers.proofs.LivesTold.{goes_further, goes_nowhere, told_from}
use Rattle.gaz_calls.proofs.tables.Tables.lives_behind.Goals as goal

pub pages-init : goal.pages-init
pages-init g c = asked_nothing _ _ _ (λ db kept. goes_nowhere c.args.after (rows_of db version2))

pub pages-preserved : goal.pages-preserved
pages-preserved g c =
    let last = c.in-Behind.last in
    let fits : SFits w64 last = search rules in
    subst (λ n. AsksTables c.args.self.now c.lives_step.new.self (Ok (Some n)) (λ db place. GoesOn c.args.after place (rows_of db version2))) (sym (to_z-of_z w64 last fits))
    (asked_step _ _ _ _ c.lives_step.result c.in_ok-page.page (Some last) _ _ _ c.pages.invariant c.lives_step.ensures.asks c.in_ok-page.was
    (λ db kept was tells. goes_further c.args.after c.pages.place (Some last) (rows_of db version2) was
    (subst (TellsPage c.pages.place (rows_of db version2)) c.in-Behind.is tells)))

pub returns-in-Lives-clause-asks : goal.returns-in-Lives-clause-asks
returns-in-Lives-clause-asks g c =
    asked_step _ _ _ _ c.lives_step.result c.in_ok-page.page c.in-Lives.lives _ _ _ c.pages.invariant c.lives_step.ensures.asks c.in_ok-page.was
    (λ db kept was tells. told_from c.args.after c.pages.place (rows_of db version2) c.in-Lives.lives.items was
    (subst (TellsPage c.pages.place (rows_of db version2)) c.in-Lives.is tells))

pub returns-in_err-page-clause-asks : goal.returns-in_err-page-clause-asks
returns-in_err-page-clause-asks g c = rw (passed_on _ _ c.from_residual.ensures.1) (asked_fault _ _ _ _ _ _ _ _ _ c.pages.invariant c.lives_step.ensures.asks c.in_err-page.was)

pub returns-clause-asks : goal.returns-clause-asks
returns-clause-asks g c = wanting _ _ _ _ _ c.pages.invariant
