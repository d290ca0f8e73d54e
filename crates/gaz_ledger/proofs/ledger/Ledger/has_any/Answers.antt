use Rattle.std.proofs.Common.{◌∙◌, ap}
use Rattle.std.specs.List.{list_any}
use Rattle.gaz_views.specs.View.{View}
use Rattle.gaz_views.specs.Words.{entries}
use Rattle.gaz_standing.proofs.KeyHistories.{view_ascends}
use Rattle.gaz_standing.proofs.Marked.{any_under, none_under}
use Rattle.gaz_standing.proofs.Passing.{in_key_order}
use Rattle.gaz_standing.specs.KeyHistories.{view_at}
use Rattle.gaz_standing.specs.Indexes.{has_mark, listed}
use Rattle.gaz_ledger.proofs.Ledgers.{finds_from, seen}
use Rattle.gaz_ledger.proofs.ledger.Ledger.has_any.Goals as goal

pub returns-in-Some : goal.returns-in-Some
returns-in-Some c =
    let ds = c.self.inside.verdicts.items in
    let g = c.self.inside.histories in
    let v = view_at g c.args.volume in
    let finds = finds_from ds g c.self.inside.custodies c.self.inside.index c.self.inside.touched.items c.args.self.now c.self.invariant.0 c.self.view_is c.args.volume c.requires in
    c.any_marked.ensures ∙ any_under c.self.inside.index (entries v) c.args.mark (view_ascends v) finds (listed c.in-Some.keys.now) (in_key_order _ c.in_order.ensures) c.in-Some.ensures
    ∙ ap (λ (w : View). list_any (λ e. has_mark c.args.mark e.1) (entries w)) (seen ds g c.self.inside.custodies c.args.self.now (c.self.invariant.0.within, c.self.invariant.1.within) c.self.view_is c.args.volume)

pub returns-in-None : goal.returns-in-None
returns-in-None c =
    let ds = c.self.inside.verdicts.items in
    let g = c.self.inside.histories in
    let v = view_at g c.args.volume in
    let finds = finds_from ds g c.self.inside.custodies c.self.inside.index c.self.inside.touched.items c.args.self.now c.self.invariant.0 c.self.view_is c.args.volume c.requires in
    none_under c.self.inside.index (entries v) c.args.mark (view_ascends v) finds c.in-None.ensures
    ∙ ap (λ (w : View). list_any (λ e. has_mark c.args.mark e.1) (entries w)) (seen ds g c.self.inside.custodies c.args.self.now (c.self.invariant.0.within, c.self.invariant.1.within) c.self.view_is c.args.volume)
