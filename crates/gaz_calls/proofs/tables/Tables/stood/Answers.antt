use Rattle.std.proofs.Common.{subst, sym}
use Rattle.gaz_tables.specs.Schema.{version2}
use Rattle.gaz_tables.specs.Tables.{rows_of}
use Rattle.gaz_row_items.specs.Newest.{TellsStood, current_in}
use Rattle.gaz_row_items.specs.Versions.{histories_in}
use Rattle.gaz_kept.specs.LastViews.{last_in}
use Rattle.gaz_calls.proofs.Answered.{answered_ok}
use Rattle.gaz_calls.proofs.Passed.{stood_told}
use Rattle.gaz_calls.proofs.tables.Tables.stood.Goals as goal

pub returns : goal.returns
returns g c =
    let life = c.in_ok-life.life in
    answered_ok _ _ _ life _ _ _ c.newest.ensures c.in_ok-life.was (λ db kept newest.
    let rows = histories_in (rows_of db version2) c.args.code in
    let last = last_in db c.args.code in
    subst (λ i. TellsStood rows last c.args.key.now c.stood_by.result i) (sym c.current_in.ensures)
    (subst (λ s. TellsStood rows last c.args.key.now s (current_in life)) (sym c.stood_by.ensures)
    (stood_told db c.args.code c.args.key.now life kept newest)))
