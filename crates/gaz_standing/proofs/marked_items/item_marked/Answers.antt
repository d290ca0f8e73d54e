use Rattle.std.proofs.Common.{◌∙◌, Bor, ap}
use Rattle.std.specs.Prelude.{Option, Some, None, option_map, if◌then◌else◌}
use Rattle.std.specs.Option.{option_and_then}
use Rattle.gaz_records.specs.declared.item.Item.{Item}
use Rattle.gaz_records.specs.declared.shared.SharedItem.{SharedItem}
use Rattle.gaz_standing.proofs.KeyHistories.{row_at}
use Rattle.gaz_standing.specs.Indexes.{has_mark}
use Rattle.gaz_standing.specs.declared.index.Mark.{Mark}
use Rattle.gaz_standing.proofs.marked_items.item_marked.Goals as goal

abbrev where_on : Mark → Option Item → Option Item
where_on m o = option_and_then (λ i. if has_mark m i then Some i else None) o

pub returns-in_err-item : goal.returns-in_err-item
returns-in_err-item c =
    ap (option_map (λ (i : Bor SharedItem). i.now)) c.from_residual.ensures
    ∙ ap (where_on c.args.mark.now) (c.in_err-item.ensures ∙ row_at c.args.histories.now c.args.volume c.args.key.now)

pub returns-then-is_on : goal.returns-then-is_on
returns-then-is_on c =
    ap (λ b. if b then Some c.in_ok-item.item.now else None) (c.if-is_on.ensures ∙ ap (has_mark c.args.mark.now) c.deref.ensures)
    ∙ ap (where_on c.args.mark.now) (c.in_ok-item.ensures ∙ row_at c.args.histories.now c.args.volume c.args.key.now)

pub returns-else-is_on : goal.returns-else-is_on
returns-else-is_on c =
    ap (λ b. if b then Some c.in_ok-item.item.now else None) (c.if-is_on.ensures ∙ ap (has_mark c.args.mark.now) c.deref.ensures)
    ∙ ap (where_on c.args.mark.now) (c.in_ok-item.ensures ∙ row_at c.args.histories.now c.args.volume c.args.key.now)
