use Rattle.std.proofs.Common.{◌≡◌, ◌∙◌, ◌==◌, ap, length, rules}
use Rattle.std.specs.Prelude.{vec_len}
use Rattle.gaz_calls.proofs.Answered.{answered_ok}
use Rattle.gaz_calls.proofs.PassagesTold.{any_there}
use Rattle.gaz_calls.proofs.tables.Tables.any_passed.Goals as goal

pub returns : goal.returns
returns g c =
    let rows = c.in_ok-rows.rows in
    let size : vec_len rows ≡ length rows.items = search rules in
    answered_ok _ _ _ rows _ _ _ c.passage_rows.ensures c.in_ok-rows.was (λ db kept found.
    any_there db kept c.args.code rows.items found c.is_empty.result (c.is_empty.ensures ∙ ap (λ n. n == 0) size))
