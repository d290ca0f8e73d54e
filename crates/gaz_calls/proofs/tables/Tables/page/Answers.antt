use Rattle.std.proofs.Common.{◌∙◌, arith, sym}
use Rattle.gaz_keeper.specs.Board.{view_after}
use Rattle.gaz_kept.specs.Contents.{board_of}
use Rattle.gaz_calls.proofs.Answered.{asked_as}
use Rattle.gaz_calls.proofs.Composing.{asked_nothing}
use Rattle.gaz_answers.proofs.PageRows.{not_reached, page_of_none}
use Rattle.gaz_calls.proofs.tables.Tables.page.Goals as goal

pub returns-then-volume-gt-LAST_VOLUME : goal.returns-then-volume-gt-LAST_VOLUME
returns-then-volume-gt-LAST_VOLUME g c =
    asked_nothing _ c.new.result _ (λ db kept within. absurd (not_reached db kept c.args.code c.args.volume (omega arith) within))

pub returns-then-not-is_entry : goal.returns-then-not-is_entry
returns-then-not-is_entry g c =
    asked_nothing _ c.new-then-not-is_entry.result _ (λ db kept within. c.new-then-not-is_entry.ensures.items ∙ page_of_none (view_after (board_of db) c.args.code c.args.volume) c.args.kind c.args.after c.args.most (sym c.is_entry.ensures ∙ c.if-not-is_entry.true))

pub returns : goal.returns
returns g c = asked_as _ _ c.page_from.result _ _ c.page_from.ensures (λ db kept items is. is c.args.after c.in_ok-start.ensures)
