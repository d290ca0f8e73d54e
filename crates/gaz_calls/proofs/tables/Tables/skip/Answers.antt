use Rattle.std.proofs.Common.{◌≡◌, ◌∙◌, ◌≤◌, ap, arith, pos, w64, refl}
use Rattle.std.proofs.Math.Facts.{to_z-of_z}
use mir.Val.{to_z, of_z}
use Rattle.gaz_keeper.proofs.Faults.{passed_on}
use Rattle.gaz_calls.proofs.Numbering.{is_next, numbered}
use Rattle.gaz_views.specs.declared.verdict.Verdict.TheVariants.{Rejected}
use Rattle.gaz_calls.proofs.Receiving.{Recalled, RejectsAt, judged_err, judged_ok, skip_judges, writes_failing, writes_never}
use Rattle.gaz_calls.proofs.tables.Tables.skip.Goals as goal

pub returns : goal.returns
returns g c =
    let range = rw c.number-2.ensures.value at c.number-2.ensures.range in
    let next = is_next c.in_ok-reached.reached c.saturating_add.result c.in-Some.next c.saturating_add.ensures (numbered 1 999_999 c.saturating_add.result c.in-Some.next c.in-Some.ensures) range.1 in
    let place : to_z w64 (of_z w64 c.in-Ok.place) ≡ pos c.args.place = ap (λ z. to_z w64 (of_z w64 z)) c.in-Ok.ensures.1 ∙ to_z-of_z c.in-Ok.ensures.0 in
    let small : c.args.rule ≤ 255 = omega (arith, c.ranges.rule.fits) in
    judged_ok c.args.code (Rejected c.args.place c.args.rule) (λ v. RejectsAt c.args.code v c.args.place c.args.rule) (skip_judges c.args.code c.args.place c.args.rule small)
    _ _ c.reject.new.self _ c.reached.result c.reject.result _ c.in_ok-reached.reached c.in-Some.next next
    c.reached.ensures c.in_ok-reached.was (rw (c.number.ensures.value, c.number-2.ensures.value, place) at c.reject.ensures) c.in_ok-reject.was
    refl refl c.was_judged.ensures

pub returns-in_err-reject : goal.returns-in_err-reject
returns-in_err-reject g c =
    let range = rw c.number-2.ensures.value at c.number-2.ensures.range in
    let next = is_next c.in_ok-reached.reached c.saturating_add.result c.in-Some.next c.saturating_add.ensures (numbered 1 999_999 c.saturating_add.result c.in-Some.next c.in-Some.ensures) range.1 in
    let place : to_z w64 (of_z w64 c.in-Ok.place) ≡ pos c.args.place = ap (λ z. to_z w64 (of_z w64 z)) c.in-Ok.ensures.1 ∙ to_z-of_z c.in-Ok.ensures.0 in
    let small : c.args.rule ≤ 255 = omega (arith, c.ranges.rule.fits) in
    rw (passed_on _ _ c.from_residual-in_err-reject.ensures.1) (judged_err c.args.code (Rejected c.args.place c.args.rule) (λ v. RejectsAt c.args.code v c.args.place c.args.rule) (skip_judges c.args.code c.args.place c.args.rule small)
    _ _ _ c.reached.result c.reject.result _ c.in_ok-reached.reached c.in-Some.next next
    c.reached.ensures c.in_ok-reached.was (rw (c.number.ensures.value, c.number-2.ensures.value, place) at c.reject.ensures) c.in_err-reject.was)

pub returns-in_err-reached : goal.returns-in_err-reached
returns-in_err-reached g c = rw (passed_on _ _ c.from_residual.ensures.1) (writes_never _ _ c.reached.result _ (Recalled c.args.code) _ _ c.reached.ensures c.in_err-reached.was)

pub returns-in_default : goal.returns-in_default
returns-in_default g c = writes_failing _ _ _ c.reached.result c.fail.result (Recalled c.args.code) _ _ c.reached.ensures c.fail.ensures.fails

pub returns-in_default-try_from : goal.returns-in_default-try_from
returns-in_default-try_from g c =
    writes_failing _ _ _ c.reached.result c.fail-in_default-try_from.result (Recalled c.args.code) _ _ c.reached.ensures c.fail-in_default-try_from.ensures.fails
