use Rattle.std.proofs.Common.{◌≤◌, ◌∙◌, IfOk, arith, subst}
use Rattle.gaz_tables.specs.Schema.{received, version2}
use Rattle.gaz_tables.specs.Tables.{rows_of}
use Rattle.gaz_row_items.specs.Newest.{IsNewestUntil}
use Rattle.gaz_row_items.specs.Versions.{histories_in}
use Rattle.gaz_calls.proofs.Composing.{answered}
use Rattle.gaz_kept.proofs.KeysTold.{at_told}
use Rattle.gaz_kept.proofs.Reached.{reached_most}
use Rattle.gaz_calls.proofs.tables.Tables.at.Goals as goal

pub returns : goal.returns
returns g c =
    answered _ _ _ _ _ _ c.newest_until.ensures (λ db kept found reached.
    let most = reached_most (rows_of db received) kept.files c.args.code (kept.first c.args.code) in
    let within : c.args.volume ≤ 999_999 = omega (arith, most, reached) in
    c.item_after.ensures ∙ at_told db c.args.code c.args.key.now c.in_ok-life.life kept c.args.volume c.capped.result (c.capped.ensures.within within)
    (subst (λ r. IfOk r (IsNewestUntil c.capped.result (histories_in (rows_of db version2) c.args.code) c.args.key.now)) c.in_ok-life.was found))
