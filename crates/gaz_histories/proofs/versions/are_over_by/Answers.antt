use Rattle.std.proofs.Common.{◌∙◌, arith, sym}
use Rattle.gaz_histories.specs.Histories.{standing_at}
use Rattle.gaz_histories.specs.Kept.{versions_of}
use Rattle.gaz_histories.proofs.Lives.{is_nothing, later_of, tells}
use Rattle.gaz_histories.proofs.versions.are_over_by.Goals as goal

pub returns-then-any_later : goal.returns-then-any_later
returns-then-any_later g c =
    let vs = versions_of c.args.versions.now in
    let two = tells vs c.args.volume c.any_later.result c.requires (c.any_later.ensures ∙ later_of c.args.versions.now c.args.volume) in
    ((λ no. cc), (λ over. sym (two.1 over) ∙ c.if-any_later.true))

pub returns : goal.returns
returns g c =
    let vs = versions_of c.args.versions.now in
    let two = tells vs c.args.volume c.any_later.result c.requires (c.any_later.ensures ∙ later_of c.args.versions.now c.args.volume) in
    let now = is_nothing c.last_standing.result (standing_at vs c.args.volume) c.is_none.result c.last_standing.ensures c.is_none.ensures in
    ((λ yes. two.0 (now.0 yes) c.if-any_later.false), (λ over. now.1 (over c.args.volume (omega arith))))
