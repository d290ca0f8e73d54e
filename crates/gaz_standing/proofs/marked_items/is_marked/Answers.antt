use Rattle.std.proofs.Common.{◌∙◌, ap, false}
use Rattle.std.specs.Option.{option_map_or}
use Rattle.gaz_standing.proofs.KeyHistories.{row_at}
use Rattle.gaz_standing.specs.Indexes.{has_mark}
use Rattle.gaz_standing.proofs.marked_items.is_marked.Goals as goal

pub returns-in-Some : goal.returns-in-Some
returns-in-Some c = c.is_on.ensures ∙ ap (has_mark c.args.mark.now) c.deref.ensures ∙ ap (λ o. option_map_or (has_mark c.args.mark.now) o false) (c.in-Some.ensures ∙ row_at c.args.histories.now c.args.volume c.args.key.now)

pub returns-in-None : goal.returns-in-None
returns-in-None c = ap (λ o. option_map_or (has_mark c.args.mark.now) o false) (c.in-None.ensures ∙ row_at c.args.histories.now c.args.volume c.args.key.now)
