use Rattle.std.proofs.Common.{◌∙◌}
use Rattle.gaz_kept.specs.LastViews.{last_in}
use Rattle.gaz_views.specs.Words.{entries, is_child_of}
use Rattle.gaz_calls.proofs.Answered.{asked_as}
use Rattle.gaz_answers.proofs.StreetRows.{all_left}
use Rattle.gaz_calls.proofs.tables.Tables.children.Goals as goal

pub returns : goal.returns
returns g c = asked_as _ _ _ _ _ c.left_part.ensures (λ db kept found is. is ∙ all_left (λ e. is_child_of c.args.uprn e.1) (entries (last_in db c.args.code)))
