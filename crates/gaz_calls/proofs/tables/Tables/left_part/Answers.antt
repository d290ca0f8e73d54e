use Rattle.std.proofs.Common.{subst, sym}
use Rattle.std.specs.Prelude.{option_map}
use Rattle.gaz_kept.specs.LastViews.{last_in}
use Rattle.gaz_answers.specs.Streets.{AreBehind, IsStep, is_left_part}
use Rattle.gaz_keeper.proofs.Faults.{passed_on}
use Rattle.gaz_calls.proofs.Answered.{asked_fault, asked_step}
use Rattle.gaz_calls.proofs.Composing.{asked_nothing, wanting}
use Rattle.gaz_answers.proofs.StreetRows.{walk_begins}
use Rattle.gaz_calls.proofs.tables.Tables.left_part.Goals as goal

pub pages-init : goal.pages-init
pages-init g c =
    asked_nothing _ c.new-start.result _ (λ db kept.
    subst (AreBehind (is_left_part c.args.kind c.args.uprn (option_map (λ c. c.now) c.args.passed)) (last_in db c.args.code)) (sym c.new-start.ensures.bytes) (walk_begins db kept c.args.code (is_left_part c.args.kind c.args.uprn (option_map (λ c. c.now) c.args.passed))))

pub pages-preserved : goal.pages-preserved
pages-preserved g c =
    asked_step _ _ _ _ c.part_step.result c.in_ok-step.step c.in-Behind.id _ _ _ c.pages.invariant c.part_step.ensures c.in_ok-step.was
    (λ db kept was step.
    subst (IsStep (is_left_part c.args.kind c.args.uprn (option_map (λ c. c.now) c.args.passed)) (last_in db c.args.code) c.as_str.result.now) c.in-Behind.is step
    (subst (AreBehind (is_left_part c.args.kind c.args.uprn (option_map (λ c. c.now) c.args.passed)) (last_in db c.args.code)) (sym c.as_str.ensures.value) was))

pub returns-in-Told : goal.returns-in-Told
returns-in-Told g c =
    asked_step _ _ _ _ c.part_step.result c.in_ok-step.step c.in-Told.found _ _ _ c.pages.invariant c.part_step.ensures c.in_ok-step.was
    (λ db kept was step.
    subst (IsStep (is_left_part c.args.kind c.args.uprn (option_map (λ c. c.now) c.args.passed)) (last_in db c.args.code) c.as_str.result.now) c.in-Told.is step
    (subst (AreBehind (is_left_part c.args.kind c.args.uprn (option_map (λ c. c.now) c.args.passed)) (last_in db c.args.code)) (sym c.as_str.ensures.value) was))

pub returns-in_err-step : goal.returns-in_err-step
returns-in_err-step g c = rw (passed_on _ _ c.from_residual.ensures.1) (asked_fault _ _ _ _ _ _ _ _ _ c.pages.invariant c.part_step.ensures c.in_err-step.was)

pub returns : goal.returns
returns g c = wanting _ _ _ _ _ c.pages.invariant
