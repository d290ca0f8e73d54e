use Rattle.std.proofs.Common.{◌∙◌, IfOk, subst, sym}
use Rattle.std.specs.Prelude.{is_some}
use Rattle.gaz_tables.specs.Schema.{version2}
use Rattle.gaz_tables.specs.Tables.{rows_of}
use Rattle.gaz_row_items.specs.Newest.{IsNewest}
use Rattle.gaz_row_items.specs.Versions.{histories_in}
use Rattle.gaz_keeper.proofs.Faults.{passed_on}
use Rattle.gaz_calls.proofs.Answered.{answered_ok, asked_fault, asked_step}
use Rattle.gaz_calls.proofs.Passed.{used_by_life, used_by_passage}
use Rattle.gaz_calls.proofs.tables.Tables.used.Goals as goal

pub returns-then-is_some : goal.returns-then-is_some
returns-then-is_some g c =
    answered_ok _ _ _ c.in_ok-life.life _ _ _ c.newest.ensures c.in_ok-life.was (λ db kept newest known.
    used_by_life db c.args.code c.args.key.now c.in_ok-life.life kept newest (sym c.is_some.ensures ∙ c.if-is_some.true))

pub returns : goal.returns
returns g c =
    asked_step _ _ _ _ c.passed_at.result c.in_ok-passed.passed _ _ _ _ c.newest.ensures c.passed_at.ensures c.in_ok-passed.was (λ db kept was passed known.
    let newest = subst (λ r. IfOk r (IsNewest (histories_in (rows_of db version2) c.args.code) c.args.key.now)) c.in_ok-life.was was in
    c.is_some-2.ensures ∙ used_by_passage db c.args.code c.args.key.now c.in_ok-life.life kept newest (sym c.is_some.ensures ∙ c.if-is_some.false) (is_some c.in_ok-passed.passed) (passed known))

pub returns-in_err-passed : goal.returns-in_err-passed
returns-in_err-passed g c = rw (passed_on _ _ c.from_residual-in_err-passed.ensures.1) (asked_fault _ _ _ _ _ _ _ _ _ c.newest.ensures c.passed_at.ensures c.in_err-passed.was)
