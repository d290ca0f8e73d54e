use Rattle.std.proofs.Common.{Some, ◌∙◌, ap, subst, sym}
use Rattle.std.specs.Prelude.{option_map}
use Rattle.std.specs.String.{string_bytes}
use Rattle.gaz_keeper.specs.Board.{view_after}
use Rattle.gaz_kept.specs.Contents.{board_of}
use Rattle.gaz_answers.specs.Paging.{IsPageFrom}
use Rattle.gaz_calls.proofs.Answered.{asked_as}
use Rattle.gaz_calls.proofs.Composing.{asked_nothing}
use Rattle.gaz_answers.proofs.PageRows.{page_nothing}
use Rattle.gaz_calls.proofs.tables.Tables.page_from.Goals as goal

pub returns-in-Some : goal.returns-in-Some
returns-in-Some g c =
    asked_as _ _ c.page_behind.result _ _ c.page_behind.ensures (λ db kept items is.
    subst (λ start. IsPageFrom (board_of db) c.args.code c.args.volume c.args.kind start c.args.most items.items)
    (ap Some c.as_str.ensures.value ∙ ap (option_map string_bytes) (sym c.in-Some.is)) is)

pub returns-in-None : goal.returns-in-None
returns-in-None g c =
    asked_nothing _ c.new.result _ (λ db kept.
    subst (λ start. IsPageFrom (board_of db) c.args.code c.args.volume c.args.kind start c.args.most c.new.result.items)
    (ap (option_map string_bytes) (sym c.in-None.is))
    (λ after none within. c.new.ensures.items ∙ page_nothing (view_after (board_of db) c.args.code c.args.volume) c.args.kind after c.args.most none))
