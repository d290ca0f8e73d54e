use Rattle.std.proofs.Common.{◌≡◌, ◌∙◌, ap, true, false}
use Rattle.std.specs.Option.{option_map_or}
use Rattle.gaz_standing.proofs.KeyHistories.{row_at}
use Rattle.gaz_standing.specs.Indexes.{has_mark}
use Rattle.gaz_standing.proofs.marked_items.marks_at.Goals as goal

pub returns-in-Some : goal.returns-in-Some
returns-in-Some c m is =
    c.marks_of.ensures m (ap (has_mark m) c.deref.ensures ∙ ap (λ o. option_map_or (has_mark m) o false) (c.in-Some.ensures ∙ row_at c.args.histories.now c.args.volume c.args.key.now) ∙ is)

pub returns-in-None : goal.returns-in-None
returns-in-None c m is =
    let none : false ≡ true = ap (λ o. option_map_or (has_mark m) o false) (c.in-None.ensures ∙ row_at c.args.histories.now c.args.volume c.args.key.now) ∙ is in
    cc
