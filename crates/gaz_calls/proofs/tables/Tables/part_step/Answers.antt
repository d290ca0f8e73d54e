use Rattle.std.proofs.Common.{subst, sym}
use Rattle.std.specs.Prelude.{option_map}
use Rattle.gaz_answers.specs.Streets.{IsStepOf, names_left}
use Rattle.gaz_calls.proofs.Answered.{asked_read}
use Rattle.gaz_answers.proofs.StreetRows.{parts_told}
use Rattle.gaz_answers.proofs.ShownVersions.{parts_shown}
use Rattle.gaz_answers.specs.Streets.{ShowsPart}
use Rattle.gaz_row_items.specs.Decoding.{Each}
use Rattle.gaz_calls.proofs.tables.Tables.part_step.Goals as goal

pub returns : goal.returns
returns g c =
    asked_read _ _ _ _ c.in_ok-rows.rows c.parts_told.result _ _ _ _ _ c.part_rows.ensures.asks c.in_ok-rows.was c.parts_told.ensures.said c.parts_told.ensures.told c.read.ensures
    (λ db kept found. subst (Each (ShowsPart c.args.kind)) (sym c.deref.ensures.value) (parts_shown db kept c.args.code c.args.kind c.requires c.args.uprn c.args.start.now 512 c.in_ok-rows.rows.items found))
    (λ db kept found step tells.
    parts_told db kept c.args.code c.args.kind c.requires c.args.uprn c.part_rows.ensures.some (option_map (λ c. c.now) c.args.passed) c.args.start.now 512 c.in_ok-rows.rows.items found step
    (subst (λ rows. IsStepOf 512 rows (names_left c.args.kind (option_map (λ c. c.now) c.args.passed)) step) c.deref.ensures.value tells))
