use Rattle.std.proofs.Common.{rules, subst, sym, w64}
use Rattle.std.proofs.lemmas.Int.{to_z-of_z}
use mir.Val.{SFits}
use Rattle.gaz_tables.specs.Rowids.{FindsInTurn}
use Rattle.gaz_tables.specs.Schema.{version2}
use Rattle.gaz_tables.specs.Tables.{rows_of}
use Rattle.gaz_answers.specs.Lives.{IsRowBehind}
use Rattle.gaz_calls.proofs.Answered.{asked_as}
use Rattle.gaz_calls.proofs.tables.Tables.rows_in_turn.Goals as goal

pub returns-in-Some : goal.returns-in-Some
returns-in-Some g c =
    let fits : SFits w64 c.in-Some.after = search rules in
    asked_as _ _ c.rows_behind.result _ _ c.rows_behind.ensures (λ db kept rows is.
    subst (λ after. FindsInTurn (IsRowBehind after) 512 (rows_of db version2) rows.items) (sym c.in-Some.is) (rw (to_z-of_z w64 c.in-Some.after fits) at is))

pub returns-in-None : goal.returns-in-None
returns-in-None g c =
    asked_as _ _ c.first_rows.result _ _ c.first_rows.ensures (λ db kept rows is.
    subst (λ after. FindsInTurn (IsRowBehind after) 512 (rows_of db version2) rows.items) (sym c.in-None.is) is)
