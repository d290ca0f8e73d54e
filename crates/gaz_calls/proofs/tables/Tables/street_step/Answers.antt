use Rattle.std.proofs.Common.{subst, sym}
use Rattle.std.specs.Prelude.{option_map}
use Rattle.gaz_answers.specs.Streets.{IsStepOf, says_left}
use Rattle.gaz_calls.proofs.Answered.{asked_read}
use Rattle.gaz_answers.proofs.StreetRows.{street_told}
use Rattle.gaz_answers.proofs.ShownVersions.{on_street_shown}
use Rattle.gaz_answers.specs.Streets.{ShowsOnStreet}
use Rattle.gaz_row_items.specs.Decoding.{Each}
use Rattle.gaz_calls.proofs.tables.Tables.street_step.Goals as goal

pub returns : goal.returns
returns g c =
    asked_read _ _ _ _ c.in_ok-rows.rows c.street_told.result _ _ _ _ _ c.street_rows.ensures c.in_ok-rows.was c.street_told.ensures.said c.street_told.ensures.told c.read.ensures
    (λ db kept found. subst (Each ShowsOnStreet) (sym c.deref.ensures.value) (on_street_shown db kept c.args.code c.args.usrn c.args.start.now 512 c.in_ok-rows.rows.items found))
    (λ db kept found step tells.
    street_told db kept c.args.code c.args.usrn c.args.lang (option_map (λ c. c.now) c.args.passed) c.args.start.now 512 c.in_ok-rows.rows.items found step
    (subst (λ rows. IsStepOf 512 rows (says_left c.args.lang (option_map (λ c. c.now) c.args.passed)) step) c.deref.ensures.value tells))
