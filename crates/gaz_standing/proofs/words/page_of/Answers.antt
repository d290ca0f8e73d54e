use Rattle.std.proofs.Common.{◌∙◌, ◌-◌, ap, arith, drop, length-drop, List, map, take}
use Rattle.std.specs.Prelude.{filter, length}
use Rattle.std.proofs.lemmas.List.{take_all}
use Rattle.gaz_records.specs.declared.key.Key.{Key}
use Rattle.gaz_views.specs.Words.{is_of}
use Rattle.gaz_standing.proofs.Ranges.{from_start, part_ascends}
use Rattle.gaz_standing.specs.KeyHistories.{rows_at, with_versions}
use Rattle.gaz_standing.proofs.words.page_of.Goals as goal

pub first_items-requires : goal.first_items-requires
first_items-requires c =
    let ks = c.args.order.now in
    let i = c.count_until-start.result in
    let part = take_all (length ks - i) (drop i ks) (omega (arith, length-drop i ks)) in
    rw part (part_ascends c.args.after ks (drop i ks) c.count_until-start.ensures.start c.requires)

pub returns : goal.returns
returns c =
    let ks = c.args.order.now in
    let i = c.count_until-start.result in
    let part = take_all (length ks - i) (drop i ks) (omega (arith, length-drop i ks)) in
    let es = c.args.histories.now.entries in
    c.in_ok-first_items.ensures
    ∙ ap (λ (l : List Key). take c.args.most (map (λ e. e.1) (filter (λ e. is_of c.args.kind e.0) (rows_at (with_versions l es) c.args.volume)))) part
    ∙ ap (λ l. take c.args.most (map (λ e. e.1) l)) (from_start c.args.kind c.args.after c.args.volume es ks (drop i ks) c.count_until-start.ensures.start)
