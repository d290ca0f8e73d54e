use Rattle.std.proofs.Common.{◌∙◌, IfOk, subst}
use Rattle.gaz_tables.specs.Schema.{version2}
use Rattle.gaz_tables.specs.Tables.{rows_of}
use Rattle.gaz_row_items.specs.Newest.{IsNewest}
use Rattle.gaz_row_items.specs.Versions.{histories_in}
use Rattle.gaz_calls.proofs.Composing.{answered}
use Rattle.gaz_kept.proofs.KeysTold.{current_told}
use Rattle.gaz_calls.proofs.tables.Tables.current.Goals as goal

pub returns : goal.returns
returns g c =
    answered _ _ _ _ _ _ c.newest.ensures (λ db kept found.
    c.current_in.ensures ∙ current_told db c.args.code c.args.key.now c.in_ok-life.life kept
    (subst (λ r. IfOk r (IsNewest (histories_in (rows_of db version2) c.args.code) c.args.key.now)) c.in_ok-life.was found))
