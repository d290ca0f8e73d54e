use Rattle.std.proofs.Common.{arith}
use Rattle.gaz_records.specs.Kinds.{number_of}
use Rattle.gaz_tables.specs.Schema.{version2}
use Rattle.gaz_tables.specs.Versions.{IsHolding, body_shown, id_place}
use Rattle.gaz_tables.specs.Tables.{rows_of}
use Rattle.gaz_calls.proofs.Answered.{answered_ok}
use Rattle.gaz_calls.proofs.Composing.{wanting}
use Rattle.gaz_answers.proofs.PageRows.{all_taken}
use Rattle.gaz_calls.proofs.tables.Tables.holding_all.Goals as goal

pub returns-then-len : goal.returns-then-len
returns-then-len g c =
    answered_ok _ _ _ c.in_ok-rows.rows c.in_ok-rows.rows _ _ c.holding-2.ensures c.in_ok-rows.was (λ db kept found.
    all_taken (IsHolding c.args.code (number_of c.args.kind) c.args.start.now c.args.volume) id_place 4294967295 c.args.most body_shown (rows_of db version2) c.in_ok-rows.rows.items (omega arith) (omega arith) found)

pub returns : goal.returns
returns g c = wanting _ _ _ _ _ c.holding-2.ensures
