use Rattle.std.proofs.Common.{◌∙◌, ap, List, take}
use Rattle.gaz_records.specs.declared.key.Key.{Key}
use Rattle.gaz_standing.proofs.Stored.{keys_arranged, page_stored}
use Rattle.gaz_standing.specs.KeyHistories.{items_after, rows_at, with_versions}
use Rattle.gaz_standing.proofs.histories.Histories.page.Goals as goal

pub returns-clause-page : goal.returns-clause-page
returns-clause-page c =
    let es = c.self.inside.by_key.entries in
    let ks = c.arrange.new.self in
    c.in_ok-page_of.ensures
    ∙ ap (λ (l : List Key). take c.args.most (items_after c.args.kind c.args.after (rows_at (with_versions l es) c.args.volume))) c.as_slice-order.ensures
    ∙ page_stored c.args.self.now ks es c.args.volume c.args.kind c.args.after c.args.most c.self.view_is (keys_arranged c.self.inside.order ks es c.self.invariant c.arrange.ensures.same) c.in_ok-arrange.ensures.ok
