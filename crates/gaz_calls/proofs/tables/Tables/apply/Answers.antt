use Rattle.std.proofs.Common.{refl}
use Rattle.gaz_views.specs.declared.verdict.Verdict.TheVariants.{Applied}
use Rattle.gaz_kept.specs.Keeping.{KeepsVolume}
use Rattle.gaz_kept.proofs.KeepStands.{mark_judges}
use Rattle.gaz_keeper.proofs.Faults.{passed_on}
use Rattle.gaz_calls.proofs.Numbering.{is_next, numbered}
use Rattle.gaz_calls.proofs.Receiving.{Recalled, judged_err, judged_ok, writes_failing, writes_never}
use Rattle.gaz_calls.proofs.tables.Tables.apply.Goals as goal

pub returns : goal.returns
returns g c =
    let range = rw c.number-number.ensures.value at c.number-number.ensures.range in
    let next = is_next c.in_ok-reached.reached c.saturating_add.result c.in-Some.next c.saturating_add.ensures (numbered 1 999_999 c.saturating_add.result c.in-Some.next c.in-Some.ensures) range.1 in
    judged_ok c.args.code Applied (λ v. KeepsVolume c.args.code v c.args.changes.now) (λ db after kept there keeps. mark_judges c.args.code c.args.changes.now db after kept there keeps)
    _ _ c.write.new.self _ c.reached.result c.write.result _ c.in_ok-reached.reached c.in-Some.next next
    c.reached.ensures c.in_ok-reached.was c.write.ensures c.in_ok-write.was
    refl refl c.was_judged.ensures

pub returns-in_err-write : goal.returns-in_err-write
returns-in_err-write g c =
    let range = rw c.number-number.ensures.value at c.number-number.ensures.range in
    let next = is_next c.in_ok-reached.reached c.saturating_add.result c.in-Some.next c.saturating_add.ensures (numbered 1 999_999 c.saturating_add.result c.in-Some.next c.in-Some.ensures) range.1 in
    rw (passed_on _ _ c.from_residual-in_err-write.ensures.1) (judged_err c.args.code Applied (λ v. KeepsVolume c.args.code v c.args.changes.now) (λ db after kept there keeps. mark_judges c.args.code c.args.changes.now db after kept there keeps)
    _ _ _ c.reached.result c.write.result _ c.in_ok-reached.reached c.in-Some.next next
    c.reached.ensures c.in_ok-reached.was c.write.ensures c.in_err-write.was)

pub returns-in_err-reached : goal.returns-in_err-reached
returns-in_err-reached g c = rw (passed_on _ _ c.from_residual.ensures.1) (writes_never _ _ c.reached.result _ (Recalled c.args.code) _ _ c.reached.ensures c.in_err-reached.was)

pub returns-in_default : goal.returns-in_default
returns-in_default g c = writes_failing _ _ _ c.reached.result c.fail.result (Recalled c.args.code) _ _ c.reached.ensures c.fail.ensures.fails
