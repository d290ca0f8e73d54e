use Rattle.std.proofs.Common.{◌∙◌, ◌||◌, ap, sym}
use Rattle.std.specs.Prelude.{option_map}
use Rattle.std.specs.List.{list_any}
use Rattle.gaz_records.specs.declared.item.Kind.TheVariants as kind
use Rattle.gaz_views.specs.Words.{entries}
use Rattle.gaz_kept.specs.LastViews.{last_in}
use Rattle.gaz_answers.specs.Streets.{is_left_part}
use Rattle.gaz_calls.proofs.Answered.{answered_ok, asked_more}
use Rattle.gaz_answers.proofs.StreetRows.{tied_parts}
use Rattle.gaz_calls.proofs.tables.Tables.left_tied.Goals as goal

pub returns-then-by_lpi : goal.returns-then-by_lpi
returns-then-by_lpi g c =
    let passed = option_map (λ c. c.now) c.args.passed in
    answered_ok _ _ _ c.in_ok-by_lpi.by_lpi _ _ _ c.left_part.ensures c.in_ok-by_lpi.was (λ db kept found.
    let es = entries (last_in db c.args.code) in
    sym (tied_parts c.args.uprn passed es ∙ ap (λ b. b || list_any (is_left_part kind.Xref c.args.uprn passed) es) (sym found ∙ c.if-by_lpi.true)))

pub returns : goal.returns
returns g c =
    let passed = option_map (λ c. c.now) c.args.passed in
    asked_more _ _ _ _ _ c.in_ok-by_lpi.by_lpi _ _ _ c.left_part.ensures c.left_part-2.ensures c.in_ok-by_lpi.was (λ db kept lpi found is.
    let es = entries (last_in db c.args.code) in
    is ∙ sym (tied_parts c.args.uprn passed es ∙ ap (λ b. b || list_any (is_left_part kind.Xref c.args.uprn passed) es) (sym lpi ∙ c.if-by_lpi.false)))
